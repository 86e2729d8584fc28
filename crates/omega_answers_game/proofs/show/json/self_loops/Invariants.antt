-- `self_loops`: the places before this one are counted.
use Rattle.omega_answers_game.proofs.SelfLoops.{AreCounted}
use Rattle.omega_answers_game.proofs.show.json.self_loops.Given as goal

abbrev pub invariant-loop-place : goal.invariant-loop-place
invariant-loop-place l = AreCounted l.game l.place l.count
