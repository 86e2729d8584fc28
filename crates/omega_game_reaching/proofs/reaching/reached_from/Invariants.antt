-- What holds in the loop of `reached_from`: marks the places that are reached from the given ones through
-- priorities at most `most`.
use Rattle.std.proofs.Common.{◌+◌, not, length, count_by}
use Rattle.omega_game_reaching.proofs.Marking.{IsSearch}
use Rattle.omega_game_reaching.proofs.reaching.reached_from.Given as goal

abbrev pub invariant-loop-place : goal.invariant-loop-place
invariant-loop-place l = IsSearch l.game l.choices l.most l.places l.marks.items l.stack.items

abbrev pub decreases-loop-place : goal.decreases-loop-place
decreases-loop-place l = count_by not l.marks.items + length l.stack.items
