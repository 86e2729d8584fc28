-- Going round after whole periods: the letters of a word that repeats itself stay what they are.
use Rattle.std.proofs.Common.{◌≡◌, ℕ, zero, suc, ◌+◌, ◌-◌, ◌<◌, ◌≤◌, ◌⊎◌, inl, inr, Bool, refl, sym, ap, ◌∙◌, arith}
use Rattle.omega_lang_word_laws.proofs.parting.Rounds.{after, after_cases, round}

module _ (period : ℕ) where
  -- the length of some periods
  abbrev pub times : ℕ → ℕ
  times zero = zero
  times (suc c) = times c + period

  pub times_add : (c d : ℕ) → times (c + d) ≡ times c + times d
  times_add c zero = let none : c + zero ≡ c = omega arith in ap (λ (n : ℕ). times n) none ∙ omega arith
  times_add c (suc d) =
      let next : c + suc d ≡ suc (c + d) = omega arith in
      let before : times (c + d) ≡ times c + times d = times_add c d in
      ap (λ (n : ℕ). times n) next ∙ omega (arith, before)

  pub times_gap : (c d : ℕ) → c < d → times d ≡ times c + times (d - c)
  times_gap c d less = let sum : d ≡ c + (d - c) = omega (arith, less) in ap (λ (n : ℕ). times n) sum ∙ times_add c (d - c)

  pub times_more : (c d : ℕ) → 0 < period → c < d → times c < times d
  times_more c d some less =
      let rest : d - c ≡ suc (d - c - 1) = omega (arith, less) in
      let last : times (d - c) ≡ times (d - c - 1) + period = ap (λ (n : ℕ). times n) rest in
      omega (arith, times_gap c d less, last, some)

  module _ (start first second q : ℕ) (later : first < second) (reached : start ≤ first) (whole : second ≡ first + times q) where
    -- a number is that of the round after whole periods
    record IsShifted (k : ℕ) : Type 0 where
      pub count : ℕ
      pub is : k ≡ round first second later k + times count
      pub from : (start ≤ round first second later k) ⊎ (count ≡ 0)

    shifted : (k : ℕ) → IsShifted k
    shifted zero = record { count = 0; is = refl; from = inr refl }
    shifted (suc k) = go (shifted k) (after_cases first second later (round first second later k))
      where
        here : ℕ
        here = round first second later k

        go : IsShifted k → ((suc here ≡ second) × (after first second later here ≡ first)) ⊎ ((¬ (suc here ≡ second)) × (after first second later here ≡ suc here)) → IsShifted (suc k)
        go at (inl (is, back)) = record {
          count = q + at.count;
          is = omega (arith, at.is, is, back, whole, times_add q at.count);
          from = inl (omega (arith, back, reached));
        }
        go at (inr (not, on)) = record { count = at.count; is = omega (arith, at.is, on); from = still at.from }
          where
            still : (start ≤ here) ⊎ (at.count ≡ 0) → (start ≤ after first second later here) ⊎ (at.count ≡ 0)
            still (inl past) = inl (omega (arith, past, on))
            still (inr none) = inr none

    module _ (letter : ℕ → Bool) (repeats : (i : ℕ) → start ≤ i → letter (i + period) ≡ letter i) where
      periods_later : (i c : ℕ) → start ≤ i → letter (i + times c) ≡ letter i
      periods_later i zero past = let none : i + zero ≡ i = omega arith in ap letter none
      periods_later i (suc c) past =
          let next : i + times (suc c) ≡ (i + times c) + period = omega arith in
          ap letter next ∙ repeats (i + times c) (omega (arith, past)) ∙ periods_later i c past

      pub same_on_round : (k : ℕ) → letter (round first second later k) ≡ letter k
      same_on_round k = go (shifted k)
        where
          go : IsShifted k → letter (round first second later k) ≡ letter k
          go at = by at.from
            where
              by : (start ≤ round first second later k) ⊎ (at.count ≡ 0) → letter (round first second later k) ≡ letter k
              by (inl past) = sym (periods_later (round first second later k) at.count past) ∙ ap letter (sym at.is)
              by (inr none) =
                  let last : times at.count ≡ 0 = ap (λ (n : ℕ). times n) none in
                  let same : round first second later k ≡ k = omega (arith, at.is, last) in ap letter same
