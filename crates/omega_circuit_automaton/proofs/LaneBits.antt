-- What is known in the state of a bit, and the bits of other states.
use Rattle.std.proofs.Common.{◌≡◌, inl, inr, ℕ, ◌^◌, ◌<◌, ◌/◌, ◌&&◌, Bool, true, false, List, [], ◌∷◌, ◌++◌, length, take, get_or, refl, sym, ap, ◌∙◌, subst, bit_and, bit_or}
use Rattle.std.proofs.lemmas.Bool.{cases_eq}
use Rattle.std.proofs.lemmas.Nat.{and_assoc, and_comm, and_or_apart, pow_apart}
use lib.Bits.{and_zero_r}
use Rattle.std.proofs.lemmas.List.{get_or-map}
use Rattle.omega_circuit.specs.Rounds.{gate_value}
use Rattle.omega_circuit.specs.declared.gate.Gate.{Gate}
use Rattle.omega_circuit.specs.declared.latch.Latch.{Latch}
use Rattle.omega_circuit_automaton.specs.Valuations.{latch_values}
use Rattle.omega_circuit_automaton.specs.private.Ternary.{AreGates}
use Rattle.omega_circuit_automaton.specs.declared.known.Known.{Known}
use Rattle.omega_circuit_automaton.specs.private.Lanes.{Allows, IsAmong}

-- what is known of two values is known of their conjunction
pub and_allows : (one other : Known) (bit : ℕ) (left right : Bool) → Allows one bit left → Allows other bit right
    → Allows (record { truths = bit_and one.truths other.truths; falsehoods = bit_or one.falsehoods other.falsehoods }) bit (left && right)
and_allows one other bit true true h k = and_or_apart bit one.falsehoods other.falsehoods k ∙ h
and_allows one other bit true false h k = and_assoc bit one.truths other.truths ∙ ap (bit_and one.truths) k ∙ and_zero_r one.truths
and_allows one other bit false right h k =
    ap (λ word. bit_and word bit) (and_comm one.truths other.truths) ∙ and_assoc bit other.truths one.truths ∙ ap (bit_and other.truths) h ∙ and_zero_r other.truths

-- the bits of two states are one only if the states are
pub same_lane : (one other : ℕ) → IsAmong (2 ^ one) (2 ^ other) → one ≡ other
same_lane one other among = elim (cases_eq one other) [
  | inl same ↦ same
  | inr apart ↦ absurd (among (pow_apart other one (λ e. apart (sym e))))
]

-- the values of latches are those of their variables
pub latch_value : (latches : List Latch) (round : ℕ → Bool) (values : List Bool) (k : ℕ) (d : Latch) → k < length latches → latch_values latches round ≡ values
    → round ((get_or latches k d).literal / 2) ≡ get_or values k false
latch_value latches round values k d small same =
    sym (get_or-map (λ (latch : Latch). round (latch.literal / 2)) latches k d false small) ∙ ap (λ (xs : List Bool). get_or xs k false) same

-- the gate at a place has the value of its operands
pub gate_at : (gates : List Gate) (round : ℕ → Bool) (place : ℕ) (gate : Gate) → AreGates gates round → place < length gates → gate ≡ get_or gates place gate
    → round (gate.literal / 2) ≡ gate_value round gate
gate_at gates round place gate are low is = subst (λ (g : Gate). round (g.literal / 2) ≡ gate_value round g) (sym is) (are place gate low)

-- a slice that was written back
front : {X : Type 0} (xs ys : List X) → take (length xs) (xs ++ ys) ≡ xs
front [] ys = refl
front (x ∷ xs) ys = ap (λ (zs : List _). x ∷ zs) (front xs ys)

pub written_back : {X : Type 0} (xs ys : List X) (count : ℕ) → count ≡ length xs → take count (xs ++ ys) ≡ xs
written_back xs ys count same = ap (λ n. take n (xs ++ ys)) same ∙ front xs ys
