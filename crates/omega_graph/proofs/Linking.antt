-- The last index below a bound at which a list has a state.
use Rattle.std.proofs.Common.{◌≡◌, ℕ, zero, suc, ◌+◌, ◌<◌, ◌≤◌, ◌⊎◌, inl, inr, true, false, cond, eqb, List, get_or, refl, sym, ◌∙◌, ap, subst, arith, add-one, eq-eqb}
use Rattle.std.proofs.lemmas.Bool.{cases_eq, cases_Bool, cond-true, cond-false, eqb-true, eqb-false, ne_eqb}
use Rattle.omega_graph.specs.private.Links.{last_before}

module _ (states : List ℕ) (state : ℕ) where
  step : (n : ℕ) → last_before states state (suc n) ≡ cond (eqb (get_or states n 0) state) (suc n) (last_before states state n)
  unfolding last_before
  step n = refl

  -- one index further it is that index, if the list has the state there
  pub last_here : (n : ℕ) → get_or states n 0 ≡ state → last_before states state (n + 1) ≡ n + 1
  last_here n is =
      ap (last_before states state) (add-one n) ∙ step n ∙ cond-true (eqb (get_or states n 0) state) (suc n) (last_before states state n) (eq-eqb _ _ is) ∙ sym (add-one n)

  -- and else the same
  pub last_there : (n : ℕ) → (get_or states n 0 ≡ state → ⊥) → last_before states state (n + 1) ≡ last_before states state n
  last_there n other =
      ap (last_before states state) (add-one n) ∙ step n ∙ cond-false (eqb (get_or states n 0) state) (suc n) (last_before states state n) (ne_eqb _ _ other)

  -- no index is below 0
  pub last_none : last_before states state 0 ≡ 0
  unfolding last_before
  last_none = refl

  -- it is below the bound
  pub last_below : (n : ℕ) → last_before states state n ≤ n
  last_below zero = let none = last_none in omega arith
  last_below (suc n) = go (last_below n) (cases_Bool (eqb (get_or states n 0) state))
    where
      go : last_before states state n ≤ n → (eqb (get_or states n 0) state ≡ true) ⊎ (eqb (get_or states n 0) state ≡ false) → last_before states state (suc n) ≤ suc n
      go below (inl is) = let here = step n ∙ cond-true (eqb (get_or states n 0) state) (suc n) (last_before states state n) is in omega arith
      go below (inr other) =
          let there = step n ∙ cond-false (eqb (get_or states n 0) state) (suc n) (last_before states state n) other in
          omega arith

  -- the list has the state there
  pub last_has : (n k : ℕ) → last_before states state n ≡ k + 1 → get_or states k 0 ≡ state
  last_has zero k is = let none = last_none in absurd (omega arith)
  last_has (suc n) k is = go (last_has n k) (cases_Bool (eqb (get_or states n 0) state))
    where
      go : (last_before states state n ≡ k + 1 → get_or states k 0 ≡ state)
          → (eqb (get_or states n 0) state ≡ true) ⊎ (eqb (get_or states n 0) state ≡ false) → get_or states k 0 ≡ state
      go earlier (inl same) =
          let here = step n ∙ cond-true (eqb (get_or states n 0) state) (suc n) (last_before states state n) same in
          let there : n ≡ k = omega arith in
          subst (λ (i : ℕ). get_or states i 0 ≡ state) there (eqb-true _ _ same)
      go earlier (inr other) =
          earlier (sym (step n ∙ cond-false (eqb (get_or states n 0) state) (suc n) (last_before states state n) other) ∙ is)

  -- and not between there and the bound
  pub last_after : (n i : ℕ) → i < n → last_before states state n ≤ i → get_or states i 0 ≡ state → ⊥
  last_after zero i below past is = absurd (omega arith)
  last_after (suc n) i below past is = go (last_after n i) (cases_Bool (eqb (get_or states n 0) state)) (cases_eq i n)
    where
      go : (i < n → last_before states state n ≤ i → get_or states i 0 ≡ state → ⊥)
          → (eqb (get_or states n 0) state ≡ true) ⊎ (eqb (get_or states n 0) state ≡ false) → (i ≡ n) ⊎ (i ≡ n → ⊥) → ⊥
      go earlier (inl same) at =
          let here = step n ∙ cond-true (eqb (get_or states n 0) state) (suc n) (last_before states state n) same in
          absurd (omega arith)
      go earlier (inr other) (inl at) = eqb-false _ _ other (subst (λ (k : ℕ). get_or states k 0 ≡ state) at is)
      go earlier (inr other) (inr apart) =
          let there = step n ∙ cond-false (eqb (get_or states n 0) state) (suc n) (last_before states state n) other in
          earlier (omega arith) (omega arith) is
