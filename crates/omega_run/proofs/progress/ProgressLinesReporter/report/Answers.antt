-- `report`: the parts of the line, written one after another, are the line.
use Rattle.std.proofs.Common.{◌≡◌, ◌++◌, ℕ, List, codes, decimal, rules, subst}
use Rattle.omega_game_values.specs.Player.{player_number}
use Rattle.omega_run.specs.private.steps.Telling.{TellsOn}
use Rattle.omega_run.proofs.ProgressLines.{on_and_on}
use Rattle.omega_run.proofs.progress.ProgressLinesReporter.report.Goals as goal

pub returns : goal.returns
returns g c =
    let numbered : c.from.result ≡ player_number c.args.progress.player = search rules in
    let line : ℕ → List ℕ = λ number.
    codes "player " ++ decimal number ++ codes ": " ++ decimal c.args.progress.lifts ++ codes " lifts of at most "
    ++ decimal c.args.progress.most ++ codes "\n" in
    let player = on_and_on _ _ _ _ _ _ _ _ _ c.tell_on.ensures c.tell_number.ensures in
    let colon = on_and_on _ _ _ _ _ _ _ _ _ player c.tell_on-2.ensures in
    let lifts = on_and_on _ _ _ _ _ _ _ _ _ colon c.tell_number-2.ensures in
    let of_most = on_and_on _ _ _ _ _ _ _ _ _ lifts c.tell_on-3.ensures in
    let most = on_and_on _ _ _ _ _ _ _ _ _ of_most c.tell_number-3.ensures in
    subst (λ (number : ℕ). TellsOn c.args.self.now.sound (g.E.Output.contents c.args.errors.now) (g.E.Output.contents c.tell_on-4.new.errors)
    (g.E.Output.failed c.args.errors.now) (g.E.Output.failed c.tell_on-4.new.errors) (line number)) numbered
    (on_and_on _ _ _ _ _ _ _ _ _ most c.tell_on-4.ensures)
