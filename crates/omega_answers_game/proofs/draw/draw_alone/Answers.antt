-- `draw_alone`: what is drawn is the extent that the identifier and the depth give.
use Rattle.std.proofs.Common.{rules}
use Rattle.std.proofs.lemmas.Result.{IfOk-weaker}
use Rattle.omega_text.specs.Cases.{or_memory}
use Rattle.omega_answers_game.specs.private.steps.Drawn.{IsUnknownFrom}
use Rattle.omega_answers_game.proofs.Drawing.{unknown_or_memory}
use Rattle.omega_answers_game.proofs.draw.draw_alone.Goals as goal

pub returns-clause-drawn : goal.returns-clause-drawn
returns-clause-drawn c =
    IfOk-weaker c.draw_game.result _ _
    (λ output drawn. record {
      extent = c.in_ok-extent.extent;
      asked = c.in_ok-extent.ensures.asked;
      drawn = drawn;
    })
    c.draw_game.ensures.drawn

pub returns-in_err-extent-clause-refused : goal.returns-in_err-extent-clause-refused
returns-in_err-extent-clause-refused c =
    let refused : or_memory (IsUnknownFrom c.args.game.now c.args.from) c.in_err-extent.field-0.0 =
    unknown_or_memory c.args.game.now c.args.from _ c.in_err-extent.ensures.refused in
    search rules
