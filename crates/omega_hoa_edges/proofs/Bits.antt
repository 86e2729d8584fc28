-- The valuations of indices: of each letter there is exactly one below the count of all.
use Rattle.std.proofs.Common.{◌≡◌, ◌==◌, ℕ, zero, suc, ◌+◌, ◌*◌, ◌-◌, ◌<◌, ◌≤◌, ◌⊎◌, inl, inr, ◌^◌, Bool, true, false, not, ◌&&◌, if◌then◌else◌, refl, sym, ap, subst, ◌∙◌, arith, eqb-true, true≢false}
use Rattle.std.specs.Int.{bit_at}
use Rattle.std.proofs.lemmas.Bool.{cases_lt}
use Rattle.std.proofs.lemmas.Nat.Bits.{bit_at-lt, bit_at_cat_high, bit_at_cat_low, same_from_bits_below}
use Rattle.omega_hoa_label.specs.Label.{negation, proposition, truth}
use Rattle.omega_hoa_edges.specs.Labels.{literal, valuation_label}

-- whether a bit of an index is set
abbrev pub is_set : ℕ → ℕ → Bool
is_set index p = bit_at index p == 1

pub and_parts : (a b : Bool) → (a && b) ≡ true → (a ≡ true) × (b ≡ true)
and_parts true true e = (refl, refl)
and_parts true false e = absurd (true≢false (sym e))
and_parts false b e = absurd (true≢false (sym e))

pub both_true : (a b : Bool) → a ≡ true → b ≡ true → (a && b) ≡ true
both_true true true e f = refl
both_true true false e f = f
both_true false b e f = e

-- a literal is true exactly where its proposition is as the bit
literal_held : (held : ℕ → Bool) (p : ℕ) (b : Bool) → truth held (if b then proposition p else negation (proposition p)) ≡ true → held p ≡ b
literal_held held p true e = e
literal_held held p false e = go (held p) e
  where
    go : (v : Bool) → not v ≡ true → v ≡ false
    go true e = sym e
    go false e = refl

literal_true : (held : ℕ → Bool) (p : ℕ) (b : Bool) → held p ≡ b → truth held (if b then proposition p else negation (proposition p)) ≡ true
literal_true held p true e = e
literal_true held p false e = ap not e

-- the label of a valuation is true exactly where the propositions are as the bits
pub valuation_held : (held : ℕ → Bool) (index n : ℕ) → truth held (valuation_label index n) ≡ true → (p : ℕ) → p < n → held p ≡ is_set index p
valuation_held held index zero e p below = absurd (omega arith)
valuation_held held index (suc zero) e p below =
    let first : p ≡ 0 = omega arith in
    subst (λ q. held q ≡ is_set index q) (sym first) (literal_held held 0 (is_set index 0) e)
valuation_held held index (suc (suc n)) e p below = go (valuation_held held index (suc n) parts.0) (cases_lt p (suc n))
  where
    parts : (truth held (valuation_label index (suc n)) ≡ true) × (truth held (literal index (suc n)) ≡ true)
    parts = and_parts (truth held (valuation_label index (suc n))) (truth held (literal index (suc n))) e

    go : ((q : ℕ) → q < suc n → held q ≡ is_set index q) → (p < suc n) ⊎ (suc n ≤ p) → held p ≡ is_set index p
    go earlier (inl before) = earlier p before
    go earlier (inr past) =
        let last : p ≡ suc n = omega arith in
        subst (λ q. held q ≡ is_set index q) (sym last) (literal_held held (suc n) (is_set index (suc n)) parts.1)

pub valuation_true : (held : ℕ → Bool) (index n : ℕ) → ((p : ℕ) → p < n → held p ≡ is_set index p) → truth held (valuation_label index n) ≡ true
valuation_true held index zero are = refl
valuation_true held index (suc zero) are = literal_true held 0 (is_set index 0) (are 0 (omega arith))
valuation_true held index (suc (suc n)) are =
    both_true (truth held (valuation_label index (suc n))) (truth held (literal index (suc n)))
    (valuation_true held index (suc n) (λ p below. are p (omega arith)))
    (literal_true held (suc n) (is_set index (suc n)) (are (suc n) (omega arith)))

-- a bit by its test
bit_by_test : (n i : ℕ) (b : Bool) → is_set n i ≡ b → bit_at n i ≡ (if b then 1 else 0)
bit_by_test n i true e = eqb-true (bit_at n i) 1 e
bit_by_test n i false e = go (bit_at n i) (bit_at-lt n i) e
  where
    go : (v : ℕ) → v < 2 → (v == 1) ≡ false → v ≡ 0
    go zero small e = refl
    go (suc zero) small e = absurd (true≢false e)
    go (suc (suc v)) small e = absurd (omega arith)

same_test : (a b i : ℕ) → is_set a i ≡ is_set b i → bit_at a i ≡ bit_at b i
same_test a b i e = bit_by_test a i (is_set b i) e ∙ sym (bit_by_test b i (is_set b i) refl)

-- two valuations that hold at one letter have one index
pub one_index : (held : ℕ → Bool) (n i j : ℕ) → i < 2 ^ n → j < 2 ^ n → truth held (valuation_label i n) ≡ true → truth held (valuation_label j n) ≡ true → i ≡ j
one_index held n i j small smaller one other =
    same_from_bits_below n i j small smaller
    (λ p below. same_test i j p (sym (valuation_held held i n one p below) ∙ valuation_held held j n other p below))

-- the index of a letter
pub index_of : (held : ℕ → Bool) (n : ℕ) → (index : ℕ) × ((index < 2 ^ n) × ((p : ℕ) → p < n → held p ≡ is_set index p))
index_of held zero = (0, (omega arith, λ p below. absurd (omega arith)))
index_of held (suc n) = go (held n) refl (index_of held n)
  where
    Goal : Type 0
    Goal = (index : ℕ) × ((index < 2 ^ suc n) × ((p : ℕ) → p < suc n → held p ≡ is_set index p))

    with_bit : (top : ℕ) → top < 2 → (b : Bool) → held n ≡ b → (bit_at top 0 == 1) ≡ b
        → (index : ℕ) × ((index < 2 ^ n) × ((p : ℕ) → p < n → held p ≡ is_set index p)) → Goal
    with_bit top small b is bit (index, parts) = (top * 2 ^ n + index, (grind arith, each))
      where
        below : index < 2 ^ n
        below = parts.0

        are : (p : ℕ) → p < n → held p ≡ is_set index p
        are = parts.1

        each : (p : ℕ) → p < suc n → held p ≡ is_set (top * 2 ^ n + index) p
        each p within = at (cases_lt p n)
          where
            at : (p < n) ⊎ (n ≤ p) → held p ≡ is_set (top * 2 ^ n + index) p
            at (inl low) = are p low ∙ ap (λ v. v == 1) (sym (bit_at_cat_low top n index p low))
            at (inr high) =
                let last : p ≡ n = omega arith in
                let none : n - n ≡ 0 = omega arith in
                subst (λ q. held q ≡ is_set (top * 2 ^ n + index) q) (sym last)
                (is ∙ sym bit ∙ ap (λ q. bit_at top q == 1) (sym none) ∙ ap (λ v. v == 1) (sym (bit_at_cat_high top n index n below (omega arith))))

    go : (b : Bool) → held n ≡ b → (index : ℕ) × ((index < 2 ^ n) × ((p : ℕ) → p < n → held p ≡ is_set index p)) → Goal
    go true is rest = with_bit 1 (omega arith) true is refl rest
    go false is rest = with_bit 0 (omega arith) false is refl rest
