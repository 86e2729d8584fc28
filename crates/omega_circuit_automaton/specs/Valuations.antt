-- Valuations of latches: their names, and how they follow each other.
use Rattle.std.specs.Prelude.{ℕ, Bool, List, [], ◌∷◌, Option, Some, None, map, slice_index_or, if◌then◌else◌}
use Rattle.omega_circuit.specs.Circuit.{variable_of}
use Rattle.omega_circuit.specs.Rounds.{literal_value}
use Rattle.omega_circuit.specs.declared.latch.Latch.{Latch}

-- the values of latches in a round
abbrev pub latch_values : List Latch → (ℕ → Bool) → List Bool
latch_values latches round = map (λ (latch : Latch). round (variable_of latch.literal)) latches

-- the values that latches take after a round
abbrev pub next_values : List Latch → (ℕ → Bool) → List Bool
next_values latches round = map (λ (latch : Latch). literal_value round latch.next) latches

-- the valuation with a number
abbrev pub valuation_at : List (List Bool) → ℕ → List Bool
valuation_at valuations number = slice_index_or valuations number []

-- the digit of a value
abbrev pub digit_of : Bool → ℕ
digit_of value = if value then 49 else 48

-- the name of a valuation: the values of the latches in order, or no name without latches
abbrev pub valuation_name : List Bool → Option (List ℕ)
valuation_name [] = None
valuation_name (value ∷ values) = Some (map digit_of (value ∷ values))
