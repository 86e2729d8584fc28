-- `lasso_in`: the bytes before this one are covered or left as they are.
use Rattle.std.proofs.Common.{◌≡◌, ◌++◌, drop}
use Rattle.omega_answers_walk.specs.Covered.{covered, front_size}
use Rattle.omega_answers_walk.proofs.covering.lasso_in.Given as goal

abbrev pub invariant-loop-at : goal.invariant-loop-at
invariant-loop-at l = covered (front_size l.bytes) l.bytes ≡ l.out.items ++ covered l.left (drop l.at l.bytes)
