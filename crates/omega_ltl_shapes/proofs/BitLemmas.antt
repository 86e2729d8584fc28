-- Words as sets of the numbers of their bits.
use Rattle.std.proofs.Common.{◌≡◌, ◌⊎◌, inl, inr, ◌<◌, ◌≤◌, ◌*◌, ◌/◌, ◌%◌, ◌^◌, ◌↔◌, ℕ, false, not, max, min, sym, ap, subst, ◌∙◌, arith, eqb, bit_and}
use Rattle.std.specs.Prelude.{IsTrue, bit_or}
use Rattle.std.specs.Int.{bit_at, trailing_zeros, w64}
use Rattle.std.proofs.lemmas.Bool.{cases_eq, eq-eqb, eqb-true, false≢true, ne_eqb, not_from_false}
use Rattle.std.proofs.lemmas.Nat.{and_le_l}
use Rattle.std.proofs.lemmas.Nat.Bits.{bit_at-lt, bit_at-trailing_zeros, bit_at-zero, bit_at_above, bit_at_and, bit_at_or, bit_at_set_other, bit_at_set_same, same_from_bits, shr_and_one}
use Rattle.omega_ltl_shapes.specs.Covers.{is_set}
use Rattle.omega_ltl_shapes.specs.Terms.{HasBits, HasBitsOfBoth, HasOneMore, HaveCommonBit}

pub set_bit : (word place : ℕ) → IsTrue (is_set word place) → bit_at word place ≡ 1
set_bit word place h = eqb-true (bit_at word place) 1 h

pub bit_set : (word place : ℕ) → bit_at word place ≡ 1 → IsTrue (is_set word place)
bit_set word place h = eq-eqb (bit_at word place) 1 h

-- the test of a bit
pub bit_test : (word place : ℕ) → eqb (bit_and (word / 2 ^ place) 1) 1 ≡ is_set word place
bit_test word place = ap (λ b. eqb b 1) (shr_and_one word place)

pub none_above : (word place : ℕ) → word < 2 ^ 64 → 64 ≤ place → is_set word place ≡ false
none_above word place small high = ap (λ b. eqb b 1) (bit_at_above word 64 place small high)

pub none_in_zero : (place : ℕ) → is_set 0 place ≡ false
none_in_zero place = ap (λ b. eqb b 1) (bit_at-zero place)

pub or_bits : (one other : ℕ) → HasBitsOfBoth one other (bit_or one other)
or_bits one other place = (
  λ h.
      let both : max (bit_at one place) (bit_at other place) ≡ 1 = sym (bit_at_or one other place) ∙ set_bit (bit_or one other) place h in
      elim (cases_eq (bit_at one place) 1) [
        | inl sure ↦ inl (bit_set one place sure)
        | inr never ↦ inr (bit_set other place (let low : bit_at one place < 2 = bit_at-lt one place in omega arith))
      ],
  λ h. bit_set (bit_or one other) place (bit_at_or one other place ∙ joined h),
)
  where
    joined : (IsTrue (is_set one place) ⊎ IsTrue (is_set other place)) → max (bit_at one place) (bit_at other place) ≡ 1
    joined (inl h) = let a : bit_at one place ≡ 1 = set_bit one place h in let b : bit_at other place < 2 = bit_at-lt other place in omega arith
    joined (inr h) = let a : bit_at other place ≡ 1 = set_bit other place h in let b : bit_at one place < 2 = bit_at-lt one place in omega arith

pub bits_within : (more word : ℕ) → bit_or more word ≡ more → HasBits word more
bits_within more word e place h =
    subst (λ (w : ℕ). IsTrue (is_set w place)) e ((or_bits more word place).1 (inr h))

pub within_bits : (more word : ℕ) → HasBits word more → bit_or more word ≡ more
within_bits more word has = same_from_bits (bit_or more word) more (λ i. bit_at_or more word i ∙ greater i)
  where
    greater : (i : ℕ) → max (bit_at more i) (bit_at word i) ≡ bit_at more i
    greater i = elim (cases_eq (bit_at word i) 1) [
      | inl sure ↦ (let a : bit_at more i ≡ 1 = set_bit more i (has i (bit_set word i sure)) in omega arith)
      | inr never ↦ (let low : bit_at word i < 2 = bit_at-lt word i in omega arith)
    ]

pub bits_iff : (more word : ℕ) → IsTrue (eqb (bit_or more word) more) ↔ HasBits word more
bits_iff more word = (
  λ h. bits_within more word (eqb-true (bit_or more word) more h),
  λ h. eq-eqb (bit_or more word) more (within_bits more word h),
)

pub common_bit : (one other : ℕ) → bit_and one other < 2 ^ 64 → (bit_and one other ≡ 0 → ⊥) → HaveCommonBit one other
common_bit one other small some =
    let at = bit_at-trailing_zeros w64 (bit_and one other) (omega arith) small in
    let place : ℕ = trailing_zeros w64 (bit_and one other) in
    let both : min (bit_at one place) (bit_at other place) ≡ 1 = sym (bit_at_and one other place) ∙ at.1 in
    let a : bit_at one place < 2 = bit_at-lt one place in
    let b : bit_at other place < 2 = bit_at-lt other place in
    (place, bit_set one place (omega arith), bit_set other place (omega arith))

pub common_some : (one other : ℕ) → HaveCommonBit one other → bit_and one other ≡ 0 → ⊥
common_some one other common none =
    let a : bit_at one common.0 ≡ 1 = set_bit one common.0 common.1 in
    let b : bit_at other common.0 ≡ 1 = set_bit other common.0 common.2 in
    let c : bit_at (bit_and one other) common.0 ≡ min (bit_at one common.0) (bit_at other common.0) = bit_at_and one other common.0 in
    let z : bit_at (bit_and one other) common.0 ≡ 0 = ap (λ w. bit_at w common.0) none ∙ bit_at-zero common.0 in
    omega arith

pub common_iff : (one other : ℕ) → one < 2 ^ 64 → IsTrue (not (eqb (bit_and one other) 0)) ↔ HaveCommonBit one other
common_iff one other small = (
  λ h. common_bit one other (let less : bit_and one other ≤ one = and_le_l one other in omega arith) (λ e. false≢true (sym (ap not (eq-eqb (bit_and one other) 0 e)) ∙ h)),
  λ common. not_from_false (eqb (bit_and one other) 0) (ne_eqb (bit_and one other) 0 (common_some one other common)),
)

pub one_more : (word place : ℕ) → place < 64 → HasOneMore word place (bit_or word (1 * 2 ^ place % 2 ^ 64))
one_more word place small other = elim (cases_eq other place) [
  | inl same ↦ (
    (λ h. inr same),
    (λ h. bit_set (bit_or word (1 * 2 ^ place % 2 ^ 64)) other
        (subst (λ (o : ℕ). bit_at (bit_or word (1 * 2 ^ place % 2 ^ 64)) o ≡ 1) (sym same) (bit_at_set_same w64 word place small))),
  )
  | inr differ ↦ (
    (λ h. inl (bit_set word other (sym (bit_at_set_other w64 word place small other differ) ∙ set_bit (bit_or word (1 * 2 ^ place % 2 ^ 64)) other h))),
    (λ h. bit_set (bit_or word (1 * 2 ^ place % 2 ^ 64)) other (bit_at_set_other w64 word place small other differ ∙ kept differ h)),
  )
]
  where
    kept : (other ≡ place → ⊥) → (IsTrue (is_set word other) ⊎ (other ≡ place)) → bit_at word other ≡ 1
    kept differ (inl h) = set_bit word other h
    kept differ (inr same) = absurd (differ same)
