-- `sizes_of`: the places before this one are counted.
use Rattle.omega_answers_game.specs.private.Sizes.{AreSizes}
use Rattle.omega_answers_game.proofs.counting.sizes_of.Given as goal

abbrev pub invariant-loop-leader : goal.invariant-loop-leader
invariant-loop-leader l = AreSizes l.leaders l.leader-index l.sizes.items
