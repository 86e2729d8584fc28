-- Acceptance formulas over marks that are among those of another automaton.
use Rattle.std.proofs.Common.{◌≡◌, ◌==◌, ℕ, ◌+◌, ◌<◌, ◌⊎◌, inl, inr, Bool, true, false, not, ◌||◌, if◌then◌else◌, List, [], ◌∷◌, ◌++◌, map, Contains, refl, sym, ap, subst, ◌∙◌, arith, eqb-true, eq-eqb, true≢false}
use Rattle.std.proofs.lemmas.List.Elements.{Contains-append_cases, Contains-append_left, Contains-append_right}
use Rattle.omega_hoa_acceptance.specs.Acceptance.{AccTree, conjunction, constant, disjunction, fin, holds, inf}
use Rattle.omega_hoa_automaton.specs.Automaton.{sets_of}
use Rattle.omega_hoa_automaton.specs.Meaning.{AreMarksOf}
use Rattle.omega_lang_product.proofs.Membership.{Contains-cases, Contains-here, Contains-nothing, Contains-there}
use Rattle.omega_graph.specs.Marks.{meets}
use Rattle.omega_lang_runs.specs.Runs.{Satisfies}
use Rattle.omega_lang_product.specs.Acceptance.{moved_after}
use Rattle.omega_lang_word_laws.proofs.meeting.Lists.{contains_map, map_contains}

-- marks hold what they contain
pub holds_contains : (set : ℕ) (marks : List ℕ) → holds set marks ≡ true → Contains marks set
holds_contains set [] h = absurd (true≢false (sym h))
holds_contains set (x ∷ xs) h = go (x == set) refl h (λ e. holds_contains set xs e)
  where
    go : (b : Bool) → (x == set) ≡ b → (b || holds set xs) ≡ true → (holds set xs ≡ true → Contains xs set) → Contains (x ∷ xs) set
    go true e t rest = let P : ℕ → Type 0 = λ y. Contains (x ∷ xs) y in subst P (eqb-true x set e) (Contains-here x xs)
    go false e t rest = Contains-there x set xs (rest t)

pub contains_holds : (set : ℕ) (marks : List ℕ) → Contains marks set → holds set marks ≡ true
contains_holds set [] h = absurd (Contains-nothing set h)
contains_holds set (x ∷ xs) h = go (Contains-cases x set xs h) (λ e. contains_holds set xs e)
  where
    either : (a b : Bool) → b ≡ true → (a || b) ≡ true
    either true b e = refl
    either false b e = e

    go : (x ≡ set) ⊎ Contains xs set → (Contains xs set → holds set xs ≡ true) → holds set (x ∷ xs) ≡ true
    go (inl e) rest = ap (λ b. b || holds set xs) (eq-eqb x set e)
    go (inr later) rest = either (x == set) (holds set xs) (rest later)

pub same_truth : (a b : Bool) → (a ≡ true → b ≡ true) → (b ≡ true → a ≡ true) → a ≡ b
same_truth true b there back = sym (there refl)
same_truth false true there back = back refl
same_truth false false there back = refl

-- marks of the first among those of both
pub first_holds : (set sets : ℕ) (marks others all : List ℕ) → set < sets
    → AreMarksOf (map (λ s. 0 + s) marks ++ map (λ s. sets + s) others) all → holds set marks ≡ holds (0 + set) all
first_holds set sets marks others all below are = same_truth (holds set marks) (holds (0 + set) all) there back
  where
    left : List ℕ
    left = map (λ s. 0 + s) marks

    there : holds set marks ≡ true → holds (0 + set) all ≡ true
    there h =
        contains_holds (0 + set) all ((are.same (0 + set)).1
        (Contains-append_left (map (λ s. 0 + s) marks) (map (λ s. sets + s) others) (0 + set) (contains_map (λ s. 0 + s) marks set (holds_contains set marks h))))

    from : Contains (map (λ s. 0 + s) marks) (0 + set) ⊎ Contains (map (λ s. sets + s) others) (0 + set) → Contains marks set
    from (inl h) =
        let x = map_contains (λ s. 0 + s) marks (0 + set) h in
        let e : x.0 ≡ set = omega (arith, x.2) in
        let P : ℕ → Type 0 = λ y. Contains marks y in subst P e x.1
    from (inr h) = let x = map_contains (λ s. sets + s) others (0 + set) h in absurd (omega (arith, x.2, below))

    back : holds (0 + set) all ≡ true → holds set marks ≡ true
    back h =
        contains_holds set marks (from (Contains-append_cases (map (λ s. 0 + s) marks) (map (λ s. sets + s) others) (0 + set)
        ((are.same (0 + set)).0 (holds_contains (0 + set) all h))))

-- marks of the second
pub second_holds : (set sets : ℕ) (marks others all : List ℕ) → ((s : ℕ) → Contains marks s → s < sets)
    → AreMarksOf (map (λ s. 0 + s) marks ++ map (λ s. sets + s) others) all → holds set others ≡ holds (sets + set) all
second_holds set sets marks others all low are = same_truth (holds set others) (holds (sets + set) all) there back
  where
    there : holds set others ≡ true → holds (sets + set) all ≡ true
    there h =
        contains_holds (sets + set) all ((are.same (sets + set)).1
        (Contains-append_right (map (λ s. 0 + s) marks) (map (λ s. sets + s) others) (sets + set) (contains_map (λ s. sets + s) others set (holds_contains set others h))))

    from : Contains (map (λ s. 0 + s) marks) (sets + set) ⊎ Contains (map (λ s. sets + s) others) (sets + set) → Contains others set
    from (inl h) =
        let x = map_contains (λ s. 0 + s) marks (sets + set) h in absurd (omega (arith, x.2, low x.0 x.1))
    from (inr h) =
        let x = map_contains (λ s. sets + s) others (sets + set) h in
        let e : x.0 ≡ set = omega (arith, x.2) in
        let P : ℕ → Type 0 = λ y. Contains others y in subst P e x.1

    back : holds (sets + set) all ≡ true → holds set others ≡ true
    back h =
        contains_holds set others (from (Contains-append_cases (map (λ s. 0 + s) marks) (map (λ s. sets + s) others) (sets + set)
        ((are.same (sets + set)).0 (holds_contains (sets + set) all h))))

module _ (before : ℕ) (marks moved : ℕ → List ℕ) where
  -- a set is held at the same indices
  abbrev pub IsAsHeld : ℕ → Type 0
  IsAsHeld set = (i : ℕ) → holds set (marks i) ≡ holds (before + set) (moved i)

  meets_same : (negated : Bool) (set : ℕ) → IsAsHeld set → (i : ℕ) → meets negated set (marks i) ≡ meets negated (before + set) (moved i)
  meets_same negated set same i = ap (λ h. if negated then not h else h) (same i)

  -- then a formula holds of the one where the moved one holds of the other
  pub satisfies_moved : (f : AccTree) → ((set : ℕ) → Contains (sets_of f) set → IsAsHeld set) → Satisfies marks f → Satisfies moved (moved_after before f)
  satisfies_moved (constant value) same h = h
  satisfies_moved (inf negated set) same h =
      λ i. (let at = h i in (at.0, at.1, sym (meets_same negated set (same set (Contains-here set [])) at.0) ∙ at.2))
  satisfies_moved (fin negated set) same h =
      (h.0, λ j late. sym (meets_same negated set (same set (Contains-here set [])) j) ∙ h.1 j late)
  satisfies_moved (conjunction left right) same h = (
    satisfies_moved left (λ set c. same set (Contains-append_left (sets_of left) (sets_of right) set c)) h.0,
    satisfies_moved right (λ set c. same set (Contains-append_right (sets_of left) (sets_of right) set c)) h.1,
  )
  satisfies_moved (disjunction left right) same (inl h) = inl (satisfies_moved left (λ set c. same set (Contains-append_left (sets_of left) (sets_of right) set c)) h)
  satisfies_moved (disjunction left right) same (inr h) = inr (satisfies_moved right (λ set c. same set (Contains-append_right (sets_of left) (sets_of right) set c)) h)

  pub moved_satisfies : (f : AccTree) → ((set : ℕ) → Contains (sets_of f) set → IsAsHeld set) → Satisfies moved (moved_after before f) → Satisfies marks f
  moved_satisfies (constant value) same h = h
  moved_satisfies (inf negated set) same h =
      λ i. (let at = h i in (at.0, at.1, meets_same negated set (same set (Contains-here set [])) at.0 ∙ at.2))
  moved_satisfies (fin negated set) same h =
      (h.0, λ j late. meets_same negated set (same set (Contains-here set [])) j ∙ h.1 j late)
  moved_satisfies (conjunction left right) same h = (
    moved_satisfies left (λ set c. same set (Contains-append_left (sets_of left) (sets_of right) set c)) h.0,
    moved_satisfies right (λ set c. same set (Contains-append_right (sets_of left) (sets_of right) set c)) h.1,
  )
  moved_satisfies (disjunction left right) same (inl h) = inl (moved_satisfies left (λ set c. same set (Contains-append_left (sets_of left) (sets_of right) set c)) h)
  moved_satisfies (disjunction left right) same (inr h) = inr (moved_satisfies right (λ set c. same set (Contains-append_right (sets_of left) (sets_of right) set c)) h)

-- after no set a formula is itself
pub moved_nowhere : (f : AccTree) → moved_after 0 f ≡ f
moved_nowhere (constant value) = refl
moved_nowhere (inf negated set) = let e : 0 + set ≡ set = omega arith in ap (inf negated) e
moved_nowhere (fin negated set) = let e : 0 + set ≡ set = omega arith in ap (fin negated) e
moved_nowhere (conjunction left right) = ap (λ l. conjunction l (moved_after 0 right)) (moved_nowhere left) ∙ ap (conjunction left) (moved_nowhere right)
moved_nowhere (disjunction left right) = ap (λ l. disjunction l (moved_after 0 right)) (moved_nowhere left) ∙ ap (disjunction left) (moved_nowhere right)
