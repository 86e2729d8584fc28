-- What holds in the loop of `stands_as_given`: the edges before the one looked at are in order for the winner, and lead
-- to places of the same winner.
use Rattle.std.proofs.Common.{◌≡◌, ℕ, ◌<◌, get_or}
use Rattle.omega_game_values.specs.Solution.{winner_at}
use Rattle.omega_game.specs.private.checking.Ordering.{IsInOrder}
use Rattle.omega_game.proofs.checking.given.stands_as_given.Given as goal

abbrev pub invariant-loop-next : goal.invariant-loop-next
invariant-loop-next l = record {
  ordered : (k : ℕ) → k < l.next-index → IsInOrder l.game l.winner l.numbers l.ends l.place (get_or l.next-items k 0);
  kept : (k : ℕ) → k < l.next-index → winner_at l.solution (get_or l.next-items k 0) ≡ l.winner;
}
