-- the items are refused, or the judge refuses
use Rattle.std.proofs.Common.{List, ℕ, subst, sym}
use Rattle.omega_synth_check.specs.Refusing.{IsJudgeRefusal}
use Rattle.omega_answers_synth.specs.Parting.{AreControlledAlike}
use Rattle.omega_answers_synth.proofs.Reported.{controlled_alike, judge_refused, parting_refused, refused_on}
use Rattle.omega_answers_synth.proofs.verify.controller_verdict.Goals as goal

pub controller_reply-requires : goal.controller_reply-requires
controller_reply-requires c =
    subst (AreControlledAlike c.args.specification.now c.args.controller.now) (sym c.as_slice.ensures)
    (controlled_alike c.args.specification.now c.args.controller.now c.in_ok-parted.parted c.in_ok-parted.ensures.parted)

pub returns-clause-refused : goal.returns-clause-refused
returns-clause-refused c =
    judge_refused c.args.specification.now c.args.controller.now c.in_ok-parted.parted.controlled
    (controlled_alike c.args.specification.now c.args.controller.now c.in_ok-parted.parted c.in_ok-parted.ensures.parted) c.in-Err.refusal
    (subst (λ (ns : List ℕ). IsJudgeRefusal c.args.specification.now c.args.controller.now ns c.in-Err.refusal) c.as_slice.ensures c.in-Err.ensures.refused)
    c.judge_reported.result c.judge_reported.ensures

pub returns-in_err-parted-clause-refused : goal.returns-in_err-parted-clause-refused
returns-in_err-parted-clause-refused c =
    refused_on c.from_residual.result _ _ c.from_residual.ensures.1
    (parting_refused c.args.specification.now c.args.controller.now _ c.in_err-parted.ensures.refused)
