-- `tell_turns`: the lines, written one after another, are those on the turns.
use Rattle.std.proofs.Common.{◌++◌, Bool, codes, subst}
use Rattle.omega_answers_game.specs.solve.SearchLines.{lifted_line, turn_line}
use Rattle.omega_run.specs.private.steps.Telling.{TellsOn}
use Rattle.omega_run.proofs.ProgressLines.{on_and_on}
use Rattle.omega_run.proofs.searching.tell_turns.Goals as goal

pub returns : goal.returns
returns g c =
    let both = on_and_on _ _ _ _ _ _ _ _ _ c.tell_turn.ensures c.tell_turn-2.ensures in
    subst (λ (found : Bool). TellsOn c.args.sound (g.E.Output.contents c.args.errors.now) (g.E.Output.contents c.tell_lifted.new.errors)
    (g.E.Output.failed c.args.errors.now) (g.E.Output.failed c.tell_lifted.new.errors)
    ((turn_line (codes "zielonka") c.args.turns.zielonka ++ turn_line (codes "tangles") c.args.turns.tangles) ++ lifted_line found))
    c.have_found.ensures (on_and_on _ _ _ _ _ _ _ _ _ both c.tell_lifted.ensures)
