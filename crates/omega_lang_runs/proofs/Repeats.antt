-- Numbers below a bound come again: among one more of them than the bound two are equal, found by looking.
use Rattle.std.proofs.Common.{◌≡◌, ℕ, zero, suc, ◌+◌, ◌<◌, ◌≤◌, ◌⊎◌, inl, inr, true, false, ◌||◌, eqb, List, [], ◌∷◌, length, sym, ap, refl, subst, arith, eqb-true}
use Rattle.std.specs.List.{AllByRecursion, IsDistinct, list_any}
use Rattle.std.proofs.lemmas.Bool.{cases_eq, ne_eqb, or_cases}
use Rattle.std.proofs.lemmas.Map.Steps.{length-le_from_distinct_below}

module _ (f : ℕ → ℕ) where
  -- `n` values from an index on
  abbrev values : ℕ → ℕ → List ℕ
  values i zero = []
  values i (suc n) = f i ∷ values (suc i) n

  length-values : (i n : ℕ) → length (values i n) ≡ n
  length-values i zero = refl
  length-values i (suc n) = ap suc (length-values (suc i) n)

  -- two indices at which f has one value
  pub record Repeats : Type 0 where
    pub first : ℕ
    pub second : ℕ
    pub later : first < second
    pub same : f first ≡ f second

  -- a number comes from an index on, or differs from each value there
  comes : (c i n : ℕ) → ((j : ℕ) × (i ≤ j) × (c ≡ f j)) ⊎ AllByRecursion (λ y. eqb c y ≡ false) (values i n)
  comes c i zero = inr tt
  comes c i (suc n) = elim (cases_eq c (f i)) [
    | inl same ↦ inl (i, omega arith, same)
    | inr apart ↦ elim (comes c (suc i) n) [
      | inl found ↦ inl (found.0, omega (arith, found.1), found.2)
      | inr rest ↦ inr (ne_eqb c (f i) apart, rest)
    ]
  ]

  -- a value comes again, or all are distinct
  come_again : (i n : ℕ) → Repeats ⊎ IsDistinct eqb (values i n)
  unfolding IsDistinct
  come_again i zero = inr tt
  come_again i (suc n) = elim (come_again (suc i) n) [
    | inl found ↦ inl found
    | inr distinct ↦ elim (comes (f i) (suc i) n) [
      | inl found ↦ inl (record { first = i; second = found.0; later = omega (arith, found.1); same = found.2 })
      | inr apart ↦ inr (apart, distinct)
    ]
  ]

  -- each value is below the bound
  values_below : (bound : ℕ) → ((k : ℕ) → f k < bound) → (i n q : ℕ) → list_any (eqb q) (values i n) ≡ true → q < bound
  values_below bound below i zero q has = absurd (none has)
    where
      none : false ≡ true → ⊥
      none e = cc
  values_below bound below i (suc n) q has = elim (or_cases (eqb q (f i)) (list_any (eqb q) (values (suc i) n)) has) [
    | inl here ↦ let e : q ≡ f i = eqb-true q (f i) here in omega (arith, e, below i)
    | inr later ↦ values_below bound below (suc i) n q later
  ]

-- a function whose values are below a bound repeats one
pub repeats : (f : ℕ → ℕ) (bound : ℕ) → ((k : ℕ) → f k < bound) → Repeats f
repeats f bound below = elim (come_again f 0 (suc bound)) [
  | inl found ↦ found
  | inr distinct ↦ absurd (omega (
    arith,
    length-le_from_distinct_below (values f 0 (suc bound)) bound distinct (λ q has. values_below f bound below 0 (suc bound) q has),
    length-values f 0 (suc bound),
  ))
]
