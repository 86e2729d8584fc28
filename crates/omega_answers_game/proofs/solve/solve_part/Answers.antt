-- `solve_part`: what is answered or refused for the part is that for its node.
use Rattle.std.proofs.Common.{Some, rules}
use Rattle.std.proofs.lemmas.Result.{IfErr-weaker, IfOk-weaker}
use Rattle.omega_answers_game.specs.solve.Refusing.{IsSolveGameRefusal}
use Rattle.omega_answers_game.proofs.Solving.{refused-part, refused-unknown}
use Rattle.omega_answers_game.specs.private.steps.PartRefusal.{IsPartRefusal}
use Rattle.omega_solve.proofs.within_budget.Observed.{none_observed, spares, observed_alike, observed_as}
use Rattle.omega_answers_game.proofs.solve.solve_part.Goals as goal

pub returns-in_err-part-clause-refused : goal.returns-in_err-part-clause-refused
returns-in_err-part-clause-refused g c =
    let refused : IsSolveGameRefusal c.args.game c.args.asked (Some c.args.identifier) c.args.budget c.in_err-part.field-0.0 =
    refused-unknown c.args.game c.args.asked c.args.identifier c.args.budget _ c.in_err-part.ensures.refused in
    search rules

pub returns-clause-answer : goal.returns-clause-answer
returns-clause-answer g c =
    let part_of = c.in_ok-part.ensures.part in
    IfOk-weaker c.solve_whole.result _ _
    (λ output answer. record {
      place = part_of.place;
      identified = part_of.identified;
      kept = part_of.reached.0;
      part = c.in_ok-part.part;
      reached = part_of.reached.1;
      answer = answer;
      regions = λ player k.
          c.regions_of_parts.ensures c.args.game c.in_ok-part.part player part_of.place part_of.reached.0 k
          c.keeps_limits.ensures.game part_of.reached.1;
    })
    c.solve_whole.ensures.answer

pub returns-clause-refused : goal.returns-clause-refused
returns-clause-refused g c =
    IfErr-weaker c.solve_whole.result _ _
    (λ refusal h. refused-part c.args.game c.args.asked c.args.identifier c.args.budget c.in_ok-part.part refusal c.in_ok-part.ensures.part h)
    c.solve_whole.ensures.refused

pub returns-in_err-part-clause-reported : goal.returns-in_err-part-clause-reported
returns-in_err-part-clause-reported g c =
    observed_alike _ _ _ _ c.from_residual.result _ c.in_err-part.field-0.0 _ _ c.from_residual.ensures.1 (λ e same. same)
    (none_observed _ _ _ _ _ _ (spares (IsPartRefusal c.args.game c.args.identifier) _ c.in_err-part.ensures.refused (λ no. (let e = no.0 in cc))))

pub returns-clause-reported : goal.returns-clause-reported
returns-clause-reported g c =
    let part_of = c.in_ok-part.ensures.part in
    observed_as _ _ _ _ _ _ _ _ (λ nodes players lifted. (rw lifted.0 part_of, lifted.1)) c.solve_whole.ensures.reported

pub returns-clause-counted : goal.returns-clause-counted
returns-clause-counted g c =
    IfOk-weaker c.solve_whole.result _ _ (λ output counted. (c.in_ok-part.part, c.in_ok-part.ensures.part, counted)) c.solve_whole.ensures.counted
