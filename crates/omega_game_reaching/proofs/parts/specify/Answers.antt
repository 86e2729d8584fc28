-- `specify`: adds the specification of the node at a place.
use Rattle.std.proofs.Common.{sym, ap, ◌∙◌}
use Rattle.omega_game_values.specs.Building.{with_last, with_name}
use Rattle.omega_game_values.specs.Game.{node_at}
use Rattle.omega_game_reaching.proofs.Specifying.{name_added}
use Rattle.omega_game_reaching.proofs.parts.specify.Goals as goal

pub returns-in_ok-set_name-clause-ok : goal.returns-in_ok-set_name-clause-ok
returns-in_ok-set_name-clause-ok c =
    let h = c.in-Some.ensures in let h2 = c.in-Some.name-is in
    c.in_ok-set_name.ensures.ok
    ∙ ap (with_last (with_name c.in-Some.name.now)) c.in_ok-specify_unnamed.ensures.ok
    ∙ name_added c.args.game.now (node_at c.args.game.now c.args.place) c.args.builder.now c.in-Some.name.now (sym c.in-Some.ensures)
