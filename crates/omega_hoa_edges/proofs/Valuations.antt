-- The label of a valuation, one proposition more at a time.
use Rattle.std.proofs.Common.{◌≡◌, ◌==◌, ℕ, zero, suc, ◌+◌, ◌<◌, ◌≤◌, ◌/◌, ◌%◌, ◌^◌, false, nat_lt, ap, sym, ◌∙◌, arith}
use Rattle.std.proofs.Math.Nat.{div-eq_of_lt}
use Rattle.std.proofs.Math.Pow.{pow_mono}
use Rattle.omega_hoa_label.specs.Label.{conjunction}
use Rattle.omega_hoa_edges.specs.Labels.{literal, valuation_label}

-- one proposition more
pub valuation_more : (index p : ℕ) → 1 ≤ p → valuation_label index (p + 1) ≡ conjunction (valuation_label index p) (literal index p)
valuation_more index zero some = absurd (omega arith)
valuation_more index (suc p) some = let e : suc p + 1 ≡ suc (suc p) = omega arith in ap (valuation_label index) e

-- bits of numbers that are too small have none
not_below : (k n : ℕ) → n ≤ k → nat_lt k n ≡ false
not_below k n least = grind arith

pub far_bit : (index p : ℕ) → 64 ≤ p → index < 2 ^ 64 → nat_lt p 64 ≡ ((index / 2 ^ p) % 2 == 1)
far_bit index p far small =
    let e : index / 2 ^ p ≡ 0 = div-eq_of_lt (omega (arith, small, pow_mono far)) in
    not_below p 64 far ∙ ap (λ (n : ℕ). n % 2 == 1) (sym e)
