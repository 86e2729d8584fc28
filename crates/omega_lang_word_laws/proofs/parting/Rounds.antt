-- Numbers that count up to one of them and then go round, back to an earlier one: what is tested of them recurs or
-- ceases.
use Rattle.std.proofs.Common.{◌≡◌, ◌==◌, ℕ, zero, suc, ◌+◌, ◌-◌, ◌<◌, ◌≤◌, ◌⊎◌, inl, inr, Bool, true, false, if◌then◌else◌, refl, sym, ap, subst, ◌∙◌, arith, eqb-true, eq-eqb, true≢false}
use Rattle.std.proofs.lemmas.Bool.{cases_lt}
use Rattle.omega_text.proofs.Omniscience.{RecursOrCeases}

-- between two bounds a test passes somewhere or nowhere
abbrev Between : (ℕ → Bool) → ℕ → ℕ → Type 0
Between test first n = ((m : ℕ) × (first ≤ m) × (m < first + n) × (test m ≡ true)) ⊎ ((m : ℕ) → first ≤ m → m < first + n → test m ≡ false)

between : (test : ℕ → Bool) (first n : ℕ) → Between test first n
between test first zero = inr (λ m least below. absurd (omega (arith, least, below)))
between test first (suc n) = go (between test first n) (test (first + n)) refl
  where
    go : Between test first n → (b : Bool) → test (first + n) ≡ b → Between test first (suc n)
    go (inl found) b e = inl (found.0, found.1, omega (arith, found.2), found.3)
    go (inr none) true e = inl (first + n, omega arith, omega arith, e)
    go (inr none) false e = inr (λ m least below. last m least below (cases_lt m (first + n)))
      where
        last : (m : ℕ) → first ≤ m → m < first + suc n → (m < first + n) ⊎ (first + n ≤ m) → test m ≡ false
        last m least below (inl less) = none m least less
        last m least below (inr past) = let here : first + n ≡ m = omega (arith, past, below) in subst (λ (k : ℕ). test k ≡ false) here e

not_there : (m n : ℕ) → m < n → ¬ (suc m ≡ n) → suc m < n
not_there m n below not = go (cases_lt (suc m) n)
  where
    go : (suc m < n) ⊎ (n ≤ suc m) → suc m < n
    go (inl less) = less
    go (inr past) = let here : suc m ≡ n = omega (arith, past, below) in absurd (not here)

module _ (first second : ℕ) (later : first < second) where
  -- the number after one: the next, or the first of the round after the last
  abbrev pub after : ℕ → ℕ
  after m = if (suc m) == second then first else suc m

  abbrev pub round : ℕ → ℕ
  round zero = zero
  round (suc k) = after (round k)

  pub after_cases : (m : ℕ) → ((suc m ≡ second) × (after m ≡ first)) ⊎ ((¬ (suc m ≡ second)) × (after m ≡ suc m))
  after_cases m = go ((suc m) == second) refl
    where
      go : (b : Bool) → ((suc m) == second) ≡ b
          → ((suc m ≡ second) × ((if b then first else suc m) ≡ first)) ⊎ ((¬ (suc m ≡ second)) × ((if b then first else suc m) ≡ suc m))
      go true e = inl (eqb-true (suc m) second e, refl)
      go false e = inr (λ is. true≢false (sym (eq-eqb (suc m) second is) ∙ e), refl)

  small : (k : ℕ) → k < second → round k ≡ k
  small zero below = refl
  small (suc k) below = go (after_cases (round k)) (small k (omega (arith, below)))
    where
      go : ((suc (round k) ≡ second) × (after (round k) ≡ first)) ⊎ ((¬ (suc (round k) ≡ second)) × (after (round k) ≡ suc (round k)))
          → round k ≡ k → after (round k) ≡ suc k
      go (inl (is, back)) before = absurd (omega (arith, is, before, below))
      go (inr (not, on)) before = on ∙ ap suc before

  inside_after : (m : ℕ) → first ≤ m → m < second → (first ≤ after m) × (after m < second)
  inside_after m least below = go (after_cases m)
    where
      go : ((suc m ≡ second) × (after m ≡ first)) ⊎ ((¬ (suc m ≡ second)) × (after m ≡ suc m)) → (first ≤ after m) × (after m < second)
      go (inl (is, back)) = (omega (arith, back), omega (arith, back, later))
      go (inr (not, on)) = let less : suc m < second = not_there m second below not in (omega (arith, on, least), omega (arith, on, less))

  inside : (k : ℕ) → first ≤ k → (first ≤ round k) × (round k < second)
  inside zero least = (least, omega (arith, later))
  inside (suc k) least = go (cases_lt k first) (λ reached. inside k reached)
    where
      go : (k < first) ⊎ (first ≤ k) → (first ≤ k → (first ≤ round k) × (round k < second)) → (first ≤ round (suc k)) × (round (suc k) < second)
      go (inl less) before =
          let at : round (suc k) ≡ suc k = small (suc k) (omega (arith, less, later)) in (omega (arith, at, least), omega (arith, at, less, later))
      go (inr reached) before = let now = before reached in inside_after (round k) now.0 now.1

  closes : (k : ℕ) → suc k ≡ second → round (suc k) ≡ first
  closes k last = go (after_cases (round k)) (small k (omega (arith, last)))
    where
      go : ((suc (round k) ≡ second) × (after (round k) ≡ first)) ⊎ ((¬ (suc (round k) ≡ second)) × (after (round k) ≡ suc (round k)))
          → round k ≡ k → after (round k) ≡ first
      go (inl (is, back)) before = back
      go (inr (not, on)) before = absurd (not (ap suc before ∙ last))

  at_second : round second ≡ first
  at_second = let last : suc (second - 1) ≡ second = omega (arith, later) in subst (λ (n : ℕ). round n ≡ first) last (closes (second - 1) last)

  again : (k : ℕ) → first ≤ k → round (k + (second - first)) ≡ round k
  again zero least =
      let here : zero + (second - first) ≡ second = omega (arith, least) in
      let none : first ≡ zero = omega (arith, least) in
      ap (λ (n : ℕ). round n) here ∙ at_second ∙ none
  again (suc k) least = go (cases_lt k first) (λ reached. again k reached)
    where
      go : (k < first) ⊎ (first ≤ k) → (first ≤ k → round (k + (second - first)) ≡ round k) → round (suc k + (second - first)) ≡ round (suc k)
      go (inl less) before =
          let here : suc k + (second - first) ≡ second = omega (arith, less, least, later) in
          let now : first ≡ suc k = omega (arith, less, least) in
          ap (λ (n : ℕ). round n) here ∙ at_second ∙ now ∙ sym (small (suc k) (omega (arith, now, later)))
      go (inr reached) before =
          let next : suc k + (second - first) ≡ suc (k + (second - first)) = omega arith in
          ap (λ (n : ℕ). round n) next ∙ ap (λ (m : ℕ). after m) (before reached)

  -- each number of the round comes again for ever
  visits : (m : ℕ) → first ≤ m → m < second → (n : ℕ) → (t : ℕ) × (n ≤ t) × (first ≤ t) × (round t ≡ m)
  visits m least below zero = (m, omega arith, least, small m below)
  visits m least below (suc n) =
      let at = visits m least below n in
      (at.0 + (second - first), omega (arith, at.1, later), omega (arith, at.2), again at.0 at.2 ∙ at.3)

  pub recurs_on_round : (test : ℕ → Bool) → RecursOrCeases (λ k. test (round k))
  recurs_on_round test = go (between test first (second - first))
    where
      go : Between test first (second - first) → RecursOrCeases (λ k. test (round k))
      go (inl found) = inl (λ i. let at = visits found.0 found.1 (omega (arith, found.2, later)) i in (at.0, at.1, ap test at.3 ∙ found.3))
      go (inr none) = inr (first, λ j past. let now = inside j past in none (round j) now.0 (omega (arith, now.1, later)))
