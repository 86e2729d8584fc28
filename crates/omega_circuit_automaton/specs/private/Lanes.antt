-- What is known of values in up to 64 states at once, each of which has a bit.
use Rattle.std.specs.Prelude.{◌≡◌, ◌<◌, ◌^◌, ℕ, Bool, true, false, List, All, bit_and, length, slice_index_or}
use Rattle.omega_circuit.specs.Circuit.{CircuitValue}
use Rattle.omega_circuit.specs.Rounds.{IsRound}
use Rattle.omega_circuit_automaton.specs.Valuations.{latch_values, valuation_at}
use Rattle.omega_circuit_automaton.specs.declared.known.Known.{Known}
use Rattle.omega_circuit_automaton.specs.declared.table.Entry.{Entry}

-- the bit of a state is among others
abbrev pub IsAmong : ℕ → ℕ → Type 0
IsAmong bit bits = bit_and bits bit ≡ 0 → ⊥

-- a value may be what is known in the state of a bit
abbrev pub Allows : Known → ℕ → Bool → Type 0
Allows known bit true = bit_and known.falsehoods bit ≡ 0
Allows known bit false = bit_and known.truths bit ≡ 0

-- nothing is known
abbrev pub nothing : Known
nothing = record { truths = 0; falsehoods = 0 }

-- what is known of a variable; nothing beyond
abbrev pub known_at : List Known → ℕ → Known
known_at known variable = slice_index_or known variable nothing

-- each variable has in a round the value that is known in the state of a bit
abbrev pub IsSoundIn : ℕ → (ℕ → Bool) → List Known → Type 0
IsSoundIn bit round known = (variable : ℕ) → Allows (known_at known variable) bit (round variable)

-- what is known in the state of a bit stays right in rounds with a property
abbrev pub KeepsSoundIn : ℕ → ((ℕ → Bool) → Type 0) → (old new : List Known) → Type 0
KeepsSoundIn bit Holds old new =
    (round : ℕ → Bool) → Holds round → IsSoundIn bit round old → IsSoundIn bit round new

-- what is known in the state of a bit is right in all rounds with these latches
abbrev pub IsLaneOf : CircuitValue → List Bool → ℕ → List Known → Type 0
IsLaneOf c latches bit known =
    (round : ℕ → Bool) → IsRound c round → latch_values c.latches round ≡ latches → IsSoundIn bit round known

-- what is known in lanes is right in all rounds with these latches
abbrev pub AreLanesOf : CircuitValue → List (List Bool) → List Known → Type 0
AreLanesOf c valuations known = (lane : ℕ) → lane < length valuations
    → IsLaneOf c (valuation_at valuations lane) (2 ^ lane) known

-- the variables have in a round the values that are kept
abbrev pub AreHeld : (ℕ → Bool) → List Entry → Type 0
AreHeld round entries = All (λ (entry : Entry). round entry.variable ≡ entry.value) entries

-- what is kept stays right in rounds with a property
abbrev pub KeepsHeld : ((ℕ → Bool) → Type 0) → (old new : List Entry) → Type 0
KeepsHeld Holds old new = (round : ℕ → Bool) → Holds round → AreHeld round old → AreHeld round new

-- what is known in the state of a bit, and what is kept, is right in a round
pub record IsSound (bit : ℕ) (round : ℕ → Bool) (known : List Known) (entries : List Entry) : Type 0 where
  pub lane : IsSoundIn bit round known
  pub kept : AreHeld round entries
