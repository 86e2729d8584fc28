-- What holds in the loop of `met_from`: meets the places that are reached from the given ones through
-- priorities at most `most`.
use Rattle.std.proofs.Common.{◌+◌, ◌-◌, not, length, count_by}
use Rattle.omega_game.proofs.walks.Meeting.{IsBreadthSearch}
use Rattle.omega_game.proofs.refuting.breadth.met_from.Given as goal

abbrev pub invariant-loop-index : goal.invariant-loop-index
invariant-loop-index l = IsBreadthSearch l.game l.choices l.most l.places l.marks.items l.met.items l.origins.items l.index

abbrev pub decreases-loop-index : goal.decreases-loop-index
decreases-loop-index l = count_by not l.marks.items + length l.met.items - l.index
