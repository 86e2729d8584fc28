-- the edges before are linked
use Rattle.std.proofs.Common.{ℕ, ◌+◌, ◌<◌, get_or}
use Rattle.omega_lang_lasso_check.specs.Conditions.{FollowsEdge}
use Rattle.omega_lang_lasso_check.proofs.links.first_apart.Given as goal

abbrev pub invariant-loop-at : goal.invariant-loop-at
invariant-loop-at l = (k : ℕ) → k + 1 < l.at → FollowsEdge l.table.automaton.now (get_or l.numbers k 0) (get_or l.numbers (k + 1) 0)
