-- `write_nodes`: the texts of the nodes before this place are written.
use Rattle.std.proofs.Common.{◌≡◌, ◌++◌, take}
use Rattle.omega_text.specs.Numbered.{numbered}
use Rattle.omega_game_dot.specs.Nodes.{node_text_if_drawn}
use Rattle.omega_game_dot.specs.private.Looks.{unsolved_look}
use Rattle.omega_game_dot.proofs.game_drawing.write_nodes.Given as goal

abbrev pub invariant-loop-place : goal.invariant-loop-place
invariant-loop-place l =
    l.out.items ≡ l.initial.out.items
    ++ numbered (λ place node. node_text_if_drawn l.game l.drawn (unsolved_look l.marks place) place node) 0 (take l.place l.game)
