-- `write_nodes`: the nodes before this one are written.
use Rattle.std.proofs.Common.{◌≡◌, ◌++◌, take, true}
use Rattle.omega_answers_walk.specs.Written.{nodes_text}
use Rattle.omega_answers_walk.proofs.explanation.write_nodes.Given as goal

abbrev pub invariant-loop-place : goal.invariant-loop-place
invariant-loop-place l = l.out.items ≡ l.initial.out.items ++ nodes_text true l.game (take l.place-index l.places)
