-- `largest_size`: the largest component of the places before this one, and of the first.
use Rattle.omega_answers_game.proofs.Counted.{IsLargestTo}
use Rattle.omega_answers_game.proofs.counting.largest_size.Given as goal

abbrev pub invariant-loop-leader : goal.invariant-loop-leader
invariant-loop-leader l = IsLargestTo l.leaders l.leader-index l.largest
