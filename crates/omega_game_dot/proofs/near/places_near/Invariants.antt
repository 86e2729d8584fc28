-- `places_near`: the search is on its way, and each step flags places or ends it.
use Rattle.std.proofs.Common.{◌+◌, count_by, length, not}
use Rattle.omega_game_dot.proofs.Searching.{IsSearch}
use Rattle.omega_game_dot.proofs.near.places_near.Given as goal

abbrev pub invariant-loop-left : goal.invariant-loop-left
invariant-loop-left l = IsSearch l.game l.fn.depth l.place l.drawn.items l.front.items l.left

abbrev pub decreases-loop-left : goal.decreases-loop-left
decreases-loop-left l = count_by not l.drawn.items + length l.front.items
