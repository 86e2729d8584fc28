-- A formula and its dual: one of the two holds of each closed walk, and one is satisfied by the marks of each run, if
-- each test recurs or ceases.
use Rattle.std.proofs.Common.{◌≡◌, ℕ, ◌⊎◌, inl, inr, Bool, true, false, not, ◌&&◌, ◌||◌, List, refl, ap₂, ◌∙◌}
use Rattle.omega_hoa_acceptance.specs.Acceptance.{AccTree, accepts, conjunction, constant, disjunction, fin, inf, occurs}
use Rattle.omega_graph.specs.Marks.{meets}
use Rattle.omega_lang_runs.specs.Runs.{AtLastNever, ForEver, Satisfies}
use Rattle.omega_hoa_acceptance.specs.Dual.{dual}
use Rattle.omega_text.specs.Omniscience.{LimitedPrincipleOfOmniscience}
use Rattle.omega_text.proofs.Omniscience.{recurs_or_ceases}

twice_not : (b : Bool) → b ≡ not (not b)
twice_not true = refl
twice_not false = refl

not_and : (b c : Bool) → (not b || not c) ≡ not (b && c)
not_and true c = refl
not_and false c = refl

not_or : (b c : Bool) → (not b && not c) ≡ not (b || c)
not_or true c = refl
not_or false c = refl

-- the dual of a formula holds exactly if the formula does not
pub dual_accepts : (forever : List (List ℕ)) (f : AccTree) → accepts forever (dual f) ≡ not (accepts forever f)
dual_accepts forever (constant value) = refl
dual_accepts forever (inf negated set) = refl
dual_accepts forever (fin negated set) = twice_not (occurs forever negated set)
dual_accepts forever (conjunction left right) =
    ap₂ ◌||◌ (dual_accepts forever left) (dual_accepts forever right) ∙ not_and (accepts forever left) (accepts forever right)
dual_accepts forever (disjunction left right) =
    ap₂ ◌&&◌ (dual_accepts forever left) (dual_accepts forever right) ∙ not_or (accepts forever left) (accepts forever right)

-- infinitely many marks satisfy a formula or its dual, by the limited principle of omniscience
pub satisfies_one : LimitedPrincipleOfOmniscience → (marks : ℕ → List ℕ) (f : AccTree) → Satisfies marks f ⊎ Satisfies marks (dual f)
satisfies_one settled marks (constant true) = inl refl
satisfies_one settled marks (constant false) = inr refl
satisfies_one settled marks (inf negated set) = recurs_or_ceases settled (λ j. meets negated set (marks j))
satisfies_one settled marks (fin negated set) = turned (recurs_or_ceases settled (λ j. meets negated set (marks j)))
  where
    turned : ForEver marks negated set ⊎ AtLastNever marks negated set → AtLastNever marks negated set ⊎ ForEver marks negated set
    turned (inl always) = inr always
    turned (inr never) = inl never
satisfies_one settled marks (conjunction left right) = both (satisfies_one settled marks left) (satisfies_one settled marks right)
  where
    both : Satisfies marks left ⊎ Satisfies marks (dual left) → Satisfies marks right ⊎ Satisfies marks (dual right)
        → (Satisfies marks left × Satisfies marks right) ⊎ (Satisfies marks (dual left) ⊎ Satisfies marks (dual right))
    both (inl one) (inl other) = inl (one, other)
    both (inl one) (inr other) = inr (inr other)
    both (inr one) other = inr (inl one)
satisfies_one settled marks (disjunction left right) = either (satisfies_one settled marks left) (satisfies_one settled marks right)
  where
    either : Satisfies marks left ⊎ Satisfies marks (dual left) → Satisfies marks right ⊎ Satisfies marks (dual right)
        → (Satisfies marks left ⊎ Satisfies marks right) ⊎ (Satisfies marks (dual left) × Satisfies marks (dual right))
    either (inl one) other = inl (inl one)
    either (inr one) (inl other) = inl (inr other)
    either (inr one) (inr other) = inr (one, other)
