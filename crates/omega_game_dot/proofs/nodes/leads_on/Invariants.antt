-- `leads_on`: the nodes before this one are drawn.
use Rattle.std.proofs.Common.{◌≡◌, false, not, take}
use Rattle.std.specs.List.{list_any}
use Rattle.omega_game_values.specs.Game.{node_at}
use Rattle.omega_game_dot.specs.Extent.{is_drawn}
use Rattle.omega_game_dot.proofs.nodes.leads_on.Given as goal

abbrev pub invariant-loop-successor : goal.invariant-loop-successor
invariant-loop-successor l =
    list_any (λ place. not (is_drawn l.drawn place)) (take l.successor-index (node_at l.game l.place).successors) ≡ false
