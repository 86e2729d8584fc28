-- `WinnerLines::add`: the winner of one line more is kept, if the line names the next node.
use Rattle.std.proofs.Common.{◌≡◌, true, refl, ◌∙◌}
use Rattle.omega_pg.proofs.solutions.WinnerLines.{winner_kept, winner_missed}
use Rattle.omega_pg.proofs.solution.winner_lines.WinnerLinesSolutionLines.add.Goals as goal

pub returns-then-not-is_next-clause-kept : goal.returns-then-not-is_next-clause-kept
returns-then-not-is_next-clause-kept c = λ lines kept.
    winner_missed c.args.game.now lines _ _ _ _ c.args.self.now.winners.items c.len.result (c.len.ensures ∙ c.args.self.now.winners.ok.0)
    c.if-not-self.false refl (λ next. (let found : c.is_next.result ≡ true = c.is_next.ensures.1 next in cc)) kept

pub returns-clause-kept : goal.returns-clause-kept
returns-clause-kept c = λ lines kept.
    winner_kept c.args.game.now lines _ _ _ _ _ c.len.result (c.len.ensures ∙ c.args.self.now.winners.ok.0)
    c.if-not-self.false refl (c.is_next.ensures.0 c.if-not-is_next.false) c.in_ok-push.ensures.items kept
