-- Tables of the reordered game are as wide.
use Rattle.std.proofs.Common.{◌∙◌, IfErr, List, ap, subst, sym}
use Rattle.omega_game_values.specs.Game.{Node, priorities}
use Rattle.omega_measure.specs.Table.{IsPrepareRefusal, is_too_wide}
use Rattle.omega_solve.proofs.within_budget.Games.{refusals_same, widths_same}
use Rattle.omega_solve.proofs.budget.reordered.Reordered.prepare.Goals as goal

pub returns-clause-fits : goal.returns-clause-fits
returns-clause-fits g c = λ ok.
    let self = c.args.self.now in
    sym (widths_same self.given self.reordered self.positions self.places c.keeps_nodes.ensures.reordered c.args.player)
    ∙ ap (λ (nodes : List Node). is_too_wide c.args.player (priorities nodes)) (sym c.reordered_game-game.ensures)
    ∙ c.prepare_in_order.ensures.fits ok

pub returns-clause-refused : goal.returns-clause-refused
returns-clause-refused g c =
    let self = c.args.self.now in
    refusals_same self.given self.reordered self.positions self.places c.keeps_nodes.ensures.reordered c.args.player c.prepare_in_order.result
    (subst (λ (nodes : List Node). IfErr c.prepare_in_order.result (IsPrepareRefusal c.args.player (priorities nodes))) c.reordered_game-game.ensures c.prepare_in_order.ensures.refused)
