-- a list of length 1 has one number
use Rattle.std.proofs.Common.{◌≡◌, ℕ, List, [], ◌∷◌, length, refl, arith}
use Rattle.omega_ltl_deterministic.specs.Candidate.{HasOne}
use Rattle.omega_ltl_deterministic.proofs.judging.is_one.Goals as goal

one_of : (numbers : List ℕ) → length numbers ≡ 1 → HasOne numbers
one_of [] is = absurd (omega (arith, is))
one_of (number ∷ []) is = (number, refl)
one_of (number ∷ other ∷ rest) is = absurd (omega (arith, is))

pub returns : goal.returns
returns c h = one_of c.args.numbers.now (omega arith)
