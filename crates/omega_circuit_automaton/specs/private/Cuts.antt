-- Cubes of letters, and the edges of a state that answer them.
use Rattle.std.specs.Prelude.{◌≡◌, ◌<◌, ◌*◌, ◌&&◌, ℕ, suc, Bool, true, false}
use Rattle.std.specs.Prelude.{not, List, [], ◌∷◌, ◌++◌, All, length, map, sum_by}
use Rattle.omega_circuit.specs.Circuit.{CircuitValue}
use Rattle.omega_circuit.specs.Rounds.{literal_value}
pub use Rattle.omega_circuit_automaton.specs.Valuations.{next_values, valuation_at}
use Rattle.omega_circuit_automaton.specs.declared.ends.Outcome.{Outcome}
use Rattle.omega_circuit_automaton.specs.declared.ends.Outcome.TheVariants.{Ends, Split}
use Rattle.omega_circuit_automaton.specs.declared.ternary.Ternary.{Ternary}
use Rattle.omega_circuit_automaton.specs.declared.ternary.Ternary.TheVariants.{False, True, Unknown}
use Rattle.omega_circuit_automaton.specs.private.Ternary.{IsRoundOf, known, ternary_at}

-- whether a value may be what is known
abbrev pub agrees : Ternary → Bool → Bool
agrees False value = not value
agrees True value = value
agrees Unknown value = true

-- whether a letter fits a cube: each of its values may be what the cube says
abbrev pub fits : List Ternary → (ℕ → Bool) → Bool
fits [] letter = true
fits (value ∷ cube) letter = agrees value (letter 0) && fits cube (λ k. letter (suc k))

-- whether what is known is that a value is true
abbrev pub is_true : Ternary → Bool
is_true False = false
is_true True = true
is_true Unknown = false

-- all rounds with these latches whose inputs fit a cube end so: with these outputs and next values
pub record AreEnds (c : CircuitValue) (latches : List Bool) (cube : List Ternary)
    (outputs nexts : List Bool) : Type 0 where
  pub outputs_are : (round : ℕ → Bool) → IsRoundOf c latches cube round
      → outputs ≡ map (λ literal. literal_value round literal) c.outputs
  pub nexts_are : (round : ℕ → Bool) → IsRoundOf c latches cube round → nexts ≡ next_values c.latches round
  pub outputs_long : length outputs ≡ length c.outputs
  pub nexts_long : length nexts ≡ length c.latches

-- a cube whose rounds end so, or an unknown input of it
abbrev pub IsOutcome : CircuitValue → List Bool → List Ternary → Outcome → Type 0
IsOutcome c latches cube (Ends ends) = AreEnds c latches cube ends.outputs.items ends.nexts.items
IsOutcome c latches cube (Split k) = (k < length cube) × (ternary_at cube k ≡ Unknown)

-- an edge: the cube that it answers, its outputs, and the number of the valuation that it leads to
pub record Cut : Type 0 where
  pub cube : List Ternary
  pub outputs : List Bool
  pub target : ℕ

-- what the letters of an edge are: inputs and then outputs
abbrev pub pattern_of : Cut → List Ternary
pattern_of cut = cut.cube ++ map known cut.outputs

-- an edge is one of a state: rounds with its inputs have its outputs and lead to its valuation
pub record IsCutOf (c : CircuitValue) (valuations : List (List Bool)) (latches : List Bool)
    (cut : Cut) : Type 0 where
  pub long : length cut.cube ≡ length c.inputs
  pub low : cut.target < length valuations
  pub ends : AreEnds c latches cut.cube cut.outputs (valuation_at valuations cut.target)

-- one if it is so
abbrev pub one_if : Bool → ℕ
one_if true = 1
one_if false = 0

-- how many cubes a letter fits
abbrev pub fitting : (ℕ → Bool) → List (List Ternary) → ℕ
fitting letter cubes = sum_by (λ cube. one_if (fits cube letter)) cubes

-- how many edges answer a letter
abbrev pub answering : (ℕ → Bool) → List Cut → ℕ
answering letter cuts = sum_by (λ (cut : Cut). one_if (fits cut.cube letter)) cuts

-- what is left to split of a cube
abbrev pub weight : List Ternary → ℕ
weight [] = 1
weight (Unknown ∷ cube) = 3 * weight cube
weight (True ∷ cube) = weight cube
weight (False ∷ cube) = weight cube

-- valuations are added behind, each of as many latches
pub record AddsValuations (count : ℕ) (old new : List (List Bool)) : Type 0 where
  pub more : List (List Bool)
  pub behind : new ≡ old ++ more
  pub long : All (λ (valuation : List Bool). length valuation ≡ count) more

-- the number of a valuation, which is added if it was not there
pub record IsNumberOf (valuation : List Bool) (old new : List (List Bool)) (number : ℕ) : Type 0 where
  pub adds : AddsValuations (length valuation) old new
  pub low : number < length new
  pub is : valuation_at new number ≡ valuation
