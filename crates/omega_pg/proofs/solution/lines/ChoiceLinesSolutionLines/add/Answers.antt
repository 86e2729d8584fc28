-- `ChoiceLines::add`: one line more is judged.
use Rattle.std.proofs.Common.{◌∙◌}
use Rattle.omega_pg.proofs.solutions.Judging.{judged_kept, judged_wrong, on_ok_4}
use Rattle.omega_pg.proofs.solution.lines.ChoiceLinesSolutionLines.add.Goals as goal

pub returns-then-not-self-clause-kept : goal.returns-then-not-self-clause-kept
returns-then-not-self-clause-kept c = λ lines judged. judged_wrong _ lines _ _ _ _ _ c.if-not-self.true judged

pub returns-in-Some-clause-kept : goal.returns-in-Some-clause-kept
returns-in-Some-clause-kept c =
    on_ok_4 c.keep.result _ _ _ _ _ c.keep.ensures.winners c.keep.ensures.zero c.keep.ensures.one c.keep.ensures.good
    (λ winners zero one good lines judged.
    judged_kept c.args.game.now lines _ c.in-Some.choice _ _ _ _ _ _ _ _ _ _
    (c.len-place.ensures ∙ c.args.self.now.winners.ok.0) c.owner.ensures
    c.if-not-self.false good c.in-Some.ensures.said winners zero one judged)
