-- `falling_priorities`: the priorities of the counts before this one are listed.
use Rattle.std.proofs.Common.{◌≡◌, map, take}
use Rattle.omega_answers_game.proofs.turning.falling_priorities.Given as goal

abbrev pub invariant-loop-count : goal.invariant-loop-count
invariant-loop-count l = l.falling.items ≡ map (λ count. count.priority) (take l.count-index l.counts)
