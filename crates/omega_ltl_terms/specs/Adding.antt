-- What becomes of a list of terms to which others are added, of which the lesser stay.
use Rattle.std.specs.Prelude.{◌≡◌, ◌⊎◌, ◌≤◌, ◌<◌, ◌+◌, ℕ, List, length, AllPairs, Contains}
use Rattle.omega_text.specs.Cases.{never, or_memory, or_task}
use Rattle.omega_text.specs.declared.refusal.Refusal.{Refusal}
use Rattle.omega_text.specs.declared.refusal.task.TaskFault.TheVariants.{TooLarge}
use Rattle.omega_ltl_shapes.specs.Demands.{Valuation}
use Rattle.omega_ltl_shapes.specs.Graphs.{IsGood}
use Rattle.omega_ltl_shapes.specs.Terms.{IsWithin}
use Rattle.omega_ltl_shapes.specs.declared.shape.Shape.{Shape}
use Rattle.omega_ltl_shapes.specs.declared.term.Term.{Term}
use Rattle.omega_ltl_terms.specs.Limits.{most_terms}

-- some term of a list is within a term
abbrev pub HasWithin : List Term → Term → Type 0
HasWithin terms term = (less : Term) × Contains terms less × IsWithin less term

-- neither of two terms is within the other
abbrev pub IsApart : Term → Term → Type 0
IsApart one other = (IsWithin one other → ⊥) × (IsWithin other one → ⊥)

-- no term of a list is within another
abbrev pub AreApart : List Term → Type 0
AreApart terms = AllPairs IsApart terms

-- a list of terms is within the limit
abbrev pub HasRoom : List Term → Type 0
HasRoom terms = length terms ≤ most_terms

-- a list becomes another: within the limit it was so before, and for each old term there is a new one within it. New
-- terms are apart if the old ones are
pub record Keeps (old new : List Term) : Type 0 where
  pub apart : AreApart old → AreApart new
  pub roomy : HasRoom new → HasRoom old
  pub within : HasRoom new → (term : Term) → Contains old term → HasWithin new term

-- each new term is an old one, or has a property
abbrev pub AddsOnly : (Term → Type 0) → (old new : List Term) → Type 0
AddsOnly Q old new = (term : Term) → Contains new term → Contains old term ⊎ Q term

-- a term is added to a list: for each term there was, and for it, there is one within it, if the limit is kept
pub record AddsMinimal (term : Term) (old new : List Term) : Type 0 where
  pub keeps : Keeps old new
  pub added : HasRoom new → HasWithin new term
  pub only : AddsOnly (λ added. added ≡ term) old new
  pub short : length new ≤ length old + 1

-- some term of a list is good at an index
abbrev pub HasGood : {shapes : List Shape} → (strongs : List ℕ) → Valuation shapes → ℕ → List Term → Type 0
HasGood strongs v i terms = (term : Term) × Contains terms term × IsGood strongs v i term

-- over the limit of terms there are that have a property, none of them within another
pub record HasManyTerms (P : Term → Type 0) : Type 0 where
  pub terms : List Term
  pub apart : AreApart terms
  pub each : (term : Term) → Contains terms term → P term
  pub many : most_terms < length terms

-- a refusal because a limit is passed, or for want of memory
abbrev pub IsLarge : Refusal → Type 0
IsLarge = or_task (λ fault. fault ≡ TooLarge) (or_memory never)

-- so it is, and the limit is passed only for a reason
abbrev pub IsLargeBy : Type 0 → Refusal → Type 0
IsLargeBy P = or_task (λ fault. (fault ≡ TooLarge) × P) (or_memory never)
