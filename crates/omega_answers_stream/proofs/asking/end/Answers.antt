-- `end`: the refusal is that of the text.
use Rattle.std.proofs.Common.{sym, subst}
use Rattle.omega_hoa.specs.Stream.{IsStreamRefusal}
use Rattle.omega_hoa.proofs.Results.{error_then}
use Rattle.omega_answers_stream.specs.private.steps.Question.{AreAskedBy}
use Rattle.omega_answers_stream.proofs.Follows.{ends_refused, same_as_before}
use Rattle.omega_answers_stream.proofs.asking.end.Goals as goal

pub returns-in_err-finish-clause-refused : goal.returns-in_err-finish-clause-refused
returns-in_err-finish-clause-refused g c =
    error_then c.from_residual.result _ _ c.from_residual.ensures.1
    (λ error is seen short follows. subst (IsStreamRefusal seen) (sym is)
    (let kept = c.args.asking.stream in
    let refusal = c.in_err-finish.field-0.0 in
    ends_refused (AreAskedBy g.Q.ItemQuestion c.args._question.now) seen kept c.args.asking.count c.args.asking.asked follows refusal short
    (λ none items fed. c.in_err-finish.ensures.refused none seen items fed)
    (same_as_before kept.refused refusal _ (λ before says. says) c.in_err-finish.ensures.refused_before)))
