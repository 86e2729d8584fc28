-- Acceptance formulas of runs without their marks, and with guards.
use Rattle.std.proofs.Common.{◌≡◌, ◌⊎◌, ℕ, ◌+◌, inl, inr, Bool, true, false, not, ◌&&◌, ◌||◌, cond, Option, Some, None, List, [], Contains, refl, sym, ap, ap₂, ◌∙◌, arith, true≢false}
use Rattle.std.proofs.lemmas.List.Elements.{Contains-append_left, Contains-append_right}
use Rattle.omega_hoa_acceptance.specs.Acceptance.{AccTree, conjunction, constant, disjunction, fin, holds, inf}
use Rattle.omega_hoa_automaton.specs.Automaton.{sets_of}
use Rattle.omega_lang_product.specs.Acceptance.{moved_after}
use Rattle.omega_lang_product.proofs.Membership.{Contains-here}
use Rattle.omega_lang_runs.specs.Runs.{Satisfies}
use Rattle.omega_lang_union.specs.Sharing.{guard_of, guarded, holds_unmarked}

either_true : (a b : Bool) → (a ≡ true) ⊎ (b ≡ true) → (a || b) ≡ true
either_true true b is = refl
either_true false b (inl is) = absurd (true≢false (sym is))
either_true false b (inr is) = is

module _ (marks : ℕ → List ℕ) where
  -- a set is in no marks
  abbrev pub IsNever : ℕ → Type 0
  IsNever set = (i : ℕ) → holds set (marks i) ≡ false

  -- what infinitely many marks satisfy that have none of its sets, holds without marks
  pub unmarked : (before : ℕ) (f : AccTree) → ((set : ℕ) → Contains (sets_of f) set → IsNever (before + set)) → Satisfies marks (moved_after before f) → holds_unmarked f ≡ true
  unmarked before (constant value) never h = h
  unmarked before (inf false set) never h =
      let at = h 0 in absurd (true≢false (sym at.2 ∙ never set (Contains-here set []) at.0))
  unmarked before (inf true set) never h = refl
  unmarked before (fin false set) never h = refl
  unmarked before (fin true set) never h =
      absurd (true≢false (sym (ap not (never set (Contains-here set []) h.0)) ∙ h.1 h.0 (omega arith)))
  unmarked before (conjunction left right) never h =
      ap₂ ◌&&◌ (unmarked before left (λ set has. never set (Contains-append_left (sets_of left) (sets_of right) set has)) h.0)
      (unmarked before right (λ set has. never set (Contains-append_right (sets_of left) (sets_of right) set has)) h.1)
  unmarked before (disjunction left right) never (inl h) =
      either_true (holds_unmarked left) (holds_unmarked right)
      (inl (unmarked before left (λ set has. never set (Contains-append_left (sets_of left) (sets_of right) set has)) h))
  unmarked before (disjunction left right) never (inr h) =
      either_true (holds_unmarked left) (holds_unmarked right)
      (inr (unmarked before right (λ set has. never set (Contains-append_right (sets_of left) (sets_of right) set has)) h))

  -- a formula with its guard, where the guard is in all marks
  pub guarded_on : (guard : Option ℕ) (f : AccTree) → ((set : ℕ) → guard ≡ Some set → (i : ℕ) → holds set (marks i) ≡ true) → Satisfies marks f → Satisfies marks (guarded guard f)
  guarded_on None f always h = h
  guarded_on (Some set) f always h = ((λ i. (i, omega arith, always set refl i)), h)

  -- and the formula alone
  pub guarded_off : (guard : Option ℕ) (f : AccTree) → Satisfies marks (guarded guard f) → Satisfies marks f
  guarded_off None f h = h
  guarded_off (Some set) f h = h.1

  -- where neither its guard nor its sets are in any marks, it fails
  pub guarded_never : (number before : ℕ) (f : AccTree) → ((set : ℕ) → Contains (sets_of f) set → IsNever (before + set)) → (holds_unmarked f ≡ true → IsNever number)
      → Satisfies marks (guarded (guard_of number f) (moved_after before f)) → ⊥
  guarded_never number before f never out h = go (holds_unmarked f) refl h
    where
      go : (b : Bool) → holds_unmarked f ≡ b → Satisfies marks (guarded (cond b (Some number) None) (moved_after before f)) → ⊥
      go true is h = let at = h.0 0 in absurd (true≢false (sym at.2 ∙ out is at.0))
      go false is h = absurd (true≢false (sym (unmarked before f never h) ∙ is))
