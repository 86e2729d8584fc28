-- The marks of a run in a part of a union, and what they satisfy.
use Rattle.std.proofs.Common.{◌≡◌, ◌⊎◌, ℕ, ◌+◌, ◌<◌, ◌≤◌, inl, inr, Bool, true, false, Option, Some, None, List, [], Contains, refl, sym, ap, subst, arith}
use Rattle.std.specs.Prelude.{IfSome}
use Rattle.std.proofs.lemmas.List.Elements.{Contains-append_cases, Contains-append_left, Contains-append_right}
use Rattle.omega_hoa_acceptance.specs.Acceptance.{AccTree, holds}
use Rattle.omega_hoa_automaton.specs.Automaton.{sets_of}
use Rattle.omega_lang_product.specs.Acceptance.{moved_after}
use Rattle.omega_lang_product.proofs.Membership.{Contains-cases, Contains-here, Contains-nothing}
use Rattle.omega_lang_runs.specs.Runs.{Satisfies}
use Rattle.omega_lang_union.specs.Parts.{Part, moved}
use Rattle.omega_lang_union.specs.Sharing.{guard_sets}
use Rattle.omega_lang_union.proofs.Rising.{IsAbove}
use Rattle.omega_lang_word_laws.proofs.meeting.Lists.{contains_map, map_contains}
use Rattle.omega_lang_word_laws.proofs.meeting.Marks.{contains_holds, holds_contains, moved_satisfies, same_truth, satisfies_moved}
use Rattle.omega_laws.proofs.UnionMoved.{marks_in}

-- what a list does not contain it does not hold
not_held : (set : ℕ) (marks : List ℕ) → (Contains marks set → ⊥) → holds set marks ≡ false
not_held set marks out = go (holds set marks) refl
  where
    go : (b : Bool) → holds set marks ≡ b → b ≡ false
    go true is = absurd (out (holds_contains set marks is))
    go false is = refl

-- a guard's set
guard_has : (guard : Option ℕ) (set : ℕ) → Contains (guard_sets guard) set → guard ≡ Some set
guard_has None set has = absurd (Contains-nothing set has)
guard_has (Some other) set has = go (Contains-cases other set [] has)
  where
    go : (other ≡ set) ⊎ Contains [] set → Some other ≡ Some set
    go (inl same) = ap Some same
    go (inr later) = absurd (Contains-nothing set later)

module _ (part : Part) (count : ℕ) (above : IsAbove part count) (low : ℕ → List ℕ) (below : (i m : ℕ) → Contains (low i) m → m < count) where
  abbrev pub all : ℕ → List ℕ
  all i = marks_in part (low i)

  -- a set of a guard is past those of its automaton
  past : (guard : Option ℕ) (set : ℕ) → IfSome guard (λ s. part.sets + count ≤ s) → guard ≡ Some set → part.sets + count ≤ set
  past guard set is same = subst (λ (g : Option ℕ). IfSome g (λ s. part.sets + count ≤ s)) same is

  -- the marks have a set, after the sets before, exactly if the automaton's do
  pub held_same : (set : ℕ) → set < count → (i : ℕ) → holds set (low i) ≡ holds (part.sets + set) (all i)
  held_same set within i = same_truth (holds set (low i)) (holds (part.sets + set) (all i)) on back
    where
      front : List ℕ
      front = moved part.sets (low i)

      on : holds set (low i) ≡ true → holds (part.sets + set) (all i) ≡ true
      on h =
          contains_holds (part.sets + set) (all i)
          (Contains-append_left front (guard_sets part.guard) (part.sets + set) (contains_map (λ (n : ℕ). part.sets + n) (low i) set (holds_contains set (low i) h)))

      from : Contains front (part.sets + set) ⊎ Contains (guard_sets part.guard) (part.sets + set) → Contains (low i) set
      from (inl h) =
          let x = map_contains (λ (n : ℕ). part.sets + n) (low i) (part.sets + set) h in
          let e : x.0 ≡ set = omega (arith, x.2) in
          subst (λ (y : ℕ). Contains (low i) y) e x.1
      from (inr h) = let far = past part.guard (part.sets + set) above (guard_has part.guard (part.sets + set) h) in absurd (omega (arith, far, within))

      back : holds (part.sets + set) (all i) ≡ true → holds set (low i) ≡ true
      back h = contains_holds set (low i) (from (Contains-append_cases front (guard_sets part.guard) (part.sets + set) (holds_contains (part.sets + set) (all i) h)))

  -- they have the set of the guard
  pub guard_held : (set : ℕ) → part.guard ≡ Some set → (i : ℕ) → holds set (all i) ≡ true
  guard_held set is i =
      contains_holds set (all i)
      (Contains-append_right (moved part.sets (low i)) (guard_sets part.guard) set
      (subst (λ (g : Option ℕ). Contains (guard_sets g) set) (sym is) (Contains-here set [])))

  -- and no other
  pub none_held : (set : ℕ) → (set < part.sets) ⊎ (part.sets + count ≤ set) → (part.guard ≡ Some set → ⊥) → (i : ℕ) → holds set (all i) ≡ false
  none_held set outside other i = not_held set (all i) (λ h. from (Contains-append_cases (moved part.sets (low i)) (guard_sets part.guard) set h))
    where
      from : Contains (moved part.sets (low i)) set ⊎ Contains (guard_sets part.guard) set → ⊥
      from (inl h) =
          let x = map_contains (λ (n : ℕ). part.sets + n) (low i) set h in
          let small : x.0 < count = below i x.0 x.1 in
          elim outside [ inl less ↦ absurd (omega (arith, x.2, less)) | inr more ↦ absurd (omega (arith, x.2, small, more)) ]
      from (inr h) = other (guard_has part.guard set h)

  -- a formula of the automaton
  pub satisfied_on : (f : AccTree) → ((set : ℕ) → Contains (sets_of f) set → set < count) → Satisfies low f → Satisfies all (moved_after part.sets f)
  satisfied_on f sets h = satisfies_moved part.sets low all f (λ set has i. held_same set (sets set has) i) h

  pub satisfied_back : (f : AccTree) → ((set : ℕ) → Contains (sets_of f) set → set < count) → Satisfies all (moved_after part.sets f) → Satisfies low f
  satisfied_back f sets h = moved_satisfies part.sets low all f (λ set has i. held_same set (sets set has) i) h
