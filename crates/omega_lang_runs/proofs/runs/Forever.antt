-- Edges and then others for ever: what the others meet comes for ever, and what they do not meet at last comes never.
use Rattle.std.proofs.Common.{◌≡◌, ℕ, zero, suc, ◌≤◌, inl, inr, Bool, true, false, ◌||◌, List, [], ◌∷◌, length, map, sym, ap, refl, ◌∙◌, arith}
use Rattle.std.specs.List.{list_any}
use Rattle.std.proofs.lemmas.Bool.{and_parts, or_cases, or_parts, not-true}
use Rattle.omega_hoa_acceptance.specs.Acceptance.{AccTree, accepts, conjunction, constant, disjunction, fin, inf, occurs}
use Rattle.omega_graph.specs.Marks.{meets}
use Rattle.omega_lang_runs.specs.Runs.{Satisfies}

-- numbers in order, and then c and those after it for ever
abbrev pub ever : ℕ → List ℕ → List ℕ → ℕ → ℕ
ever c cs [] zero = c
ever c cs [] (suc i) = ever c cs cs i
ever c cs (x ∷ xs) zero = x
ever c cs (x ∷ xs) (suc i) = ever c cs xs i

module _ (c : ℕ) (cs : List ℕ) (test : ℕ → Bool) where
  -- what passes somewhere in a list comes among the numbers in order
  comes_in : (xs : List ℕ) → list_any test xs ≡ true → (j : ℕ) × (test (ever c cs xs j) ≡ true)
  comes_in [] some = absurd (both some)
    where
      both : false ≡ true → ⊥
      both e = cc
  comes_in (x ∷ xs) some = elim (or_cases (test x) (list_any test xs) some) [
    | inl here ↦ (0, here)
    | inr later ↦ let found = comes_in xs later in (suc found.0, found.1)
  ]

  -- what passes somewhere in the lap comes in the lap after a list
  comes_at_last : (xs : List ℕ) → list_any test (c ∷ cs) ≡ true → (j : ℕ) × (test (ever c cs xs j) ≡ true)
  comes_at_last [] some = elim (or_cases (test c) (list_any test cs) some) [
    | inl here ↦ (0, here)
    | inr later ↦ let found = comes_in cs later in (suc found.0, found.1)
  ]
  comes_at_last (x ∷ xs) some = let found = comes_at_last xs some in (suc found.0, found.1)

  -- at or after every index
  pub comes_again : (xs : List ℕ) (i : ℕ) → list_any test (c ∷ cs) ≡ true → (j : ℕ) × (i ≤ j) × (test (ever c cs xs j) ≡ true)
  comes_again xs zero some = let found = comes_at_last xs some in (found.0, omega arith, found.1)
  comes_again [] (suc i) some = let found = comes_again cs i some in (suc found.0, omega (arith, found.1), found.2)
  comes_again (x ∷ xs) (suc i) some = let found = comes_again xs i some in (suc found.0, omega (arith, found.1), found.2)

  -- what passes nowhere in a list and in the lap never comes
  never_comes : (xs : List ℕ) (j : ℕ) → list_any test xs ≡ false → list_any test (c ∷ cs) ≡ false → test (ever c cs xs j) ≡ false
  never_comes [] zero none lap = (or_parts (test c) (list_any test cs) lap).0
  never_comes [] (suc j) none lap = never_comes cs j (or_parts (test c) (list_any test cs) lap).1 lap
  never_comes (x ∷ xs) zero none lap = (or_parts (test x) (list_any test xs) none).0
  never_comes (x ∷ xs) (suc j) none lap = never_comes xs j (or_parts (test x) (list_any test xs) none).1 lap

  -- what passes nowhere in the lap never comes after the list
  pub never_after : (xs : List ℕ) (j : ℕ) → length xs ≤ j → list_any test (c ∷ cs) ≡ false → test (ever c cs xs j) ≡ false
  never_after [] j following lap = never_comes [] j refl lap
  never_after (x ∷ xs) zero following lap = absurd (omega arith)
  never_after (x ∷ xs) (suc j) following lap = never_after xs j (omega arith) lap

module _ (marks : ℕ → List ℕ) where
  -- what occurs in the marks of numbers
  pub occurs_is : (negated : Bool) (set : ℕ) (xs : List ℕ)
      → occurs (map marks xs) negated set ≡ list_any (λ x. meets negated set (marks x)) xs
  occurs_is negated set [] = refl
  occurs_is negated set (x ∷ xs) = ap (λ b. meets negated set (marks x) || b) (occurs_is negated set xs)

  -- a formula that holds of the lap's marks is satisfied by the lap for ever after a list
  pub ever_satisfies : (c : ℕ) (cs xs : List ℕ) (f : AccTree) → accepts (map marks (c ∷ cs)) f ≡ true → Satisfies (λ i. marks (ever c cs xs i)) f
  ever_satisfies c cs xs (constant value) accepted = accepted
  ever_satisfies c cs xs (inf negated set) accepted =
      λ i. comes_again c cs (λ x. meets negated set (marks x)) xs i (sym (occurs_is negated set (c ∷ cs)) ∙ accepted)
  ever_satisfies c cs xs (fin negated set) accepted = (
    length xs,
    λ j following. never_after c cs (λ x. meets negated set (marks x)) xs j following
        (sym (occurs_is negated set (c ∷ cs)) ∙ not-true (occurs (map marks (c ∷ cs)) negated set) accepted),
  )
  ever_satisfies c cs xs (conjunction left right) accepted =
      let parts = and_parts (accepts (map marks (c ∷ cs)) left) (accepts (map marks (c ∷ cs)) right) accepted in
      (ever_satisfies c cs xs left parts.0, ever_satisfies c cs xs right parts.1)
  ever_satisfies c cs xs (disjunction left right) accepted =
      elim (or_cases (accepts (map marks (c ∷ cs)) left) (accepts (map marks (c ∷ cs)) right) accepted) [
        | inl first ↦ inl (ever_satisfies c cs xs left first)
        | inr second ↦ inr (ever_satisfies c cs xs right second)
      ]
