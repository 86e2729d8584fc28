-- The acceptance of a product: that of both, with the sets of the second numbered after those of the first (HOA v1,
-- acceptance names).
use Rattle.std.specs.Prelude.{◌≡◌, ◌≤◌, ◌⊎◌, ℕ, zero, suc, ◌+◌, Bool, false}
use Rattle.std.specs.Prelude.{if◌then◌else◌, [], ◌∷◌, Option, Some, None, codes}
use Rattle.omega_hoa_expression.specs.Limits.{most_buchi_sets}
use Rattle.omega_hoa_acceptance.specs.Acceptance.{AccTree}
use Rattle.omega_hoa_acceptance.specs.Acceptance as acc
use Rattle.omega_hoa_acceptance.specs.Kind.{buchi_formula}
pub use Rattle.omega_hoa_acceptance.specs.Moving.{moved_after}
use Rattle.omega_hoa_acceptance.specs.declared.name.AccName.{AccName}
use Rattle.omega_hoa_acceptance.specs.declared.name.Parameter.TheVariants.{Number}
use Rattle.omega_hoa_automaton.specs.Automaton.{Description}

-- whether a formula is `t`
abbrev pub is_true : AccTree → Bool
is_true (acc.constant value) = value
is_true (acc.inf negated set) = false
is_true (acc.fin negated set) = false
is_true (acc.conjunction left right) = false
is_true (acc.disjunction left right) = false

-- the conjunction of two formulas; if one of them is `t`, the other one alone
abbrev pub both_formulas : AccTree → AccTree → AccTree
both_formulas formula other = if is_true formula then other else if is_true other then formula
    else acc.conjunction formula other

-- the conjunction of the formulas of both automata, with the sets of the second numbered after those of the first
abbrev pub conjoined_acceptance : Description → Description → AccTree
conjoined_acceptance one other = both_formulas one.acceptance (moved_after one.sets other.acceptance)

-- Each set of an automaton has to recur. So it is Büchi or generalized Büchi, or has no sets and accepts by each run,
-- whatever it is named.
abbrev pub IsBuchi : Description → Type 0
IsBuchi a = a.acceptance ≡ buchi_formula a.sets

-- each set of both automata has to recur, and they are at most as many as emptiness by lifting takes
pub record AreBuchi (one other : Description) : Type 0 where
  pub first : IsBuchi one
  pub second : IsBuchi other
  pub few : one.sets + other.sets ≤ most_buchi_sets

-- the name of the acceptance in which each of some sets has to recur
abbrev pub buchi_name : ℕ → AccName
buchi_name zero = record { name = codes "all"; parameters = [] }
buchi_name (suc zero) = record { name = codes "Buchi"; parameters = [] }
buchi_name (suc (suc more)) = record {
  name = codes "generalized-Buchi";
  parameters = Number (suc (suc more)) ∷ [];
}

-- each set of both automata has to recur, and this is the acceptance in which all of them have to
pub record IsBuchiOfBoth (one other : Description) (name : Option AccName)
    (formula : AccTree) : Type 0 where
  pub both : AreBuchi one other
  pub name_is : name ≡ Some (buchi_name (one.sets + other.sets))
  pub formula_is : formula ≡ buchi_formula (one.sets + other.sets)

-- some set of the two need not recur, or they are too many, and this is the conjunction of both formulas, without a
-- name
pub record IsConjoined (one other : Description) (name : Option AccName)
    (formula : AccTree) : Type 0 where
  pub others : AreBuchi one other → ⊥
  pub name_is : name ≡ None
  pub formula_is : formula ≡ conjoined_acceptance one other

-- the acceptance of a product by its name and its formula
abbrev pub IsJointAcceptance : Description → Description → Option AccName → AccTree → Type 0
IsJointAcceptance one other name formula =
    IsBuchiOfBoth one other name formula ⊎ IsConjoined one other name formula

-- the acceptance formula of a product, whatever its name
abbrev pub IsJointFormula : Description → Description → AccTree → Type 0
IsJointFormula one other formula = (name : Option AccName) × IsJointAcceptance one other name formula
