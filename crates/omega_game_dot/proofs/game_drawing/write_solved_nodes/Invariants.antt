-- `write_solved_nodes`: the texts of the nodes before this place are written.
use Rattle.std.proofs.Common.{◌≡◌, ◌++◌, take}
use Rattle.omega_text.specs.Numbered.{numbered}
use Rattle.omega_game_dot.specs.Nodes.{node_text_if_drawn}
use Rattle.omega_game_dot.specs.private.Looks.{look_in}
use Rattle.omega_game_dot.proofs.game_drawing.write_solved_nodes.Given as goal

abbrev pub invariant-loop-place : goal.invariant-loop-place
invariant-loop-place l =
    l.out.items ≡ l.initial.out.items
    ++ numbered (λ place node. node_text_if_drawn l.game l.drawn (look_in l.game l.solution l.marks place) place node) 0 (take l.place l.game)
