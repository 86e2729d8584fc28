-- Bits of positions: what a write to a word changes.
use Rattle.std.proofs.Common.{inl, inr, ◌≡◌, ◌≢◌, ◌==◌, ℕ, ◌/◌, ◌%◌, ◌<◌, List, length, arith, sym, ap, ◌∙◌, get_or, set}
use Rattle.std.specs.Int.{bit_at}
use Rattle.std.proofs.lemmas.Bool.{cases_eq}
use Rattle.std.proofs.lemmas.List.{get_or-set_other, get_or-set_same}
use Rattle.omega_lift_schedules.specs.PositionSet.{is_set}

-- the bit of a position in the word that was written
pub bit_written : (words : List ℕ) (position word bit : ℕ) → position / 64 < length words → bit_at word (position % 64) ≡ bit
    → is_set (set words (position / 64) word) position ≡ (bit == 1)
bit_written words position word bit lt e =
    ap (λ (w : ℕ). bit_at w (position % 64) == 1) (get_or-set_same words (position / 64) word 0 lt) ∙ ap (λ (b : ℕ). b == 1) e

-- the bit of another position, if its word was written and if not
pub bit_kept : (words : List ℕ) (position word other : ℕ) → position / 64 < length words → other ≢ position
    → ((i : ℕ) → i < 64 → i ≢ position % 64 → bit_at word i ≡ bit_at (get_or words (position / 64) 0) i)
    → is_set (set words (position / 64) word) other ≡ is_set words other
bit_kept words position word other lt ne same = elim (cases_eq (other / 64) (position / 64)) [
  | inl e ↦
      let apart : other % 64 ≢ position % 64 = λ s. ne (omega (arith, e, s)) in
      let written : get_or (set words (position / 64) word) (other / 64) 0 ≡ word =
      ap (λ (i : ℕ). get_or (set words (position / 64) word) i 0) e ∙ get_or-set_same words (position / 64) word 0 lt in
      let before : get_or words (position / 64) 0 ≡ get_or words (other / 64) 0 = ap (λ (i : ℕ). get_or words i 0) (sym e) in
      ap (λ (w : ℕ). bit_at w (other % 64) == 1) written
      ∙ (ap (λ (b : ℕ). b == 1) (same (other % 64) (omega arith) apart)
      ∙ ap (λ (w : ℕ). bit_at w (other % 64) == 1) before)
  | inr away ↦ ap (λ (w : ℕ). bit_at w (other % 64) == 1) (get_or-set_other words (position / 64) (other / 64) word 0 away)
]
