-- What holds in the loop of `leads_to_marked`: the edges before the one looked at lead to marked places.
use Rattle.std.proofs.Common.{ℕ, ◌<◌, IsTrue, get_or}
use Rattle.omega_game_reaching.specs.Reaching.{mark_at}
use Rattle.omega_game.proofs.following.leads_to_marked.Given as goal

abbrev pub invariant-loop-next : goal.invariant-loop-next
invariant-loop-next l = (k : ℕ) → k < l.next-index → IsTrue (mark_at l.marks (get_or l.next-items k 0))
