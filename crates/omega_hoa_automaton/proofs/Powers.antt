-- Numbers of the machine and powers of two that are over them.
use Rattle.std.proofs.Common.{◌≡◌, ℕ, ◌^◌, ◌<◌, ◌≤◌, ◌==◌, false, arith}
use Rattle.std.proofs.lemmas.Bool.Decides.{nat_tests}
use lib.Pow.{pow_mono}

-- no number of 64 bits is a power of two with an exponent of 64 or more
pub no_power : (n k : ℕ) → n < 2 ^ 64 → 64 ≤ k → (n == 2 ^ k) ≡ false
no_power n k small large = let over : 2 ^ 64 ≤ 2 ^ k = pow_mono large in grind (arith, nat_tests)
