-- the refusals of the steps, and the runs, if there is a start
use Rattle.std.proofs.Common.{◌≡◌, inl, inr}
use Rattle.std.proofs.lemmas.Result.{IfOk-weaker, err_from_is_err_and}
use Rattle.omega_text.specs.declared.refusal.Refusal.TheVariants.{Memory}
use Rattle.omega_solve.proofs.within_budget.Observed.{none_observed, observed_after, observed_alike, observed_as, spares}
use Rattle.omega_synth_realize.specs.Refusing.{IsPartingRefusal, IsRealizabilityRefusal}
use Rattle.omega_synth_realize.proofs.Refused.{lifts_refused, on_ok_of, undecided_unrealized, unlifted, unparted_spares, unparted_unrealized}
use Rattle.omega_synth_realize.proofs.Sized.{on_ok_weaker}
use Rattle.omega_synth_realize.proofs.Strategies.{memory_refused}
use Rattle.omega_synth_realize.proofs.deciding.realize_by_lifting.Goals as goal

pub returns-in_err-found-clause-refused : goal.returns-in_err-found-clause-refused
returns-in_err-found-clause-refused g c =
    let p = err_from_is_err_and c.from_residual.result c.from_residual.ensures.1 in
    rw (p.1, p.2) (unparted_unrealized c.args.automaton.now c.args.controlled.now c.args.budget c.in_err-found.field-0.0 c.in_err-found.ensures.refused)

pub returns-in_err-found-clause-reported : goal.returns-in_err-found-clause-reported
returns-in_err-found-clause-reported g c =
    observed_alike _ _ _ _ c.from_residual.result _ c.in_err-found.field-0.0 _ _ c.from_residual.ensures.1 (λ e same. same)
    (none_observed _ _ _ _ _ _
    (spares (IsPartingRefusal c.args.automaton.now c.args.controlled.now) _ c.in_err-found.ensures.refused
    (unparted_spares c.args.automaton.now c.args.controlled.now)))

pub returns-in-None-clause-reported : goal.returns-in-None-clause-reported
returns-in-None-clause-reported g c =
    observed_after _ _ _ _ c.without_start.result (λ refusal. refusal ≡ Memory) _ _ c.without_start.ensures.memory (λ e. cc)
    (lifts_refused c.args.automaton.now c.args.controlled.now)
    (unlifted c.args.automaton.now c.args.controlled.now _ _ c.args.budget _ (rw c.in-None.is at c.in_ok-found.ensures.none))

pub returns-in-Some-clause-judgeable : goal.returns-in-Some-clause-judgeable
returns-in-Some-clause-judgeable g c = on_ok_of c.lift_parted.result _ c.in_ok-found.ensures.judgeable

pub returns-in-Some-clause-refused : goal.returns-in-Some-clause-refused
returns-in-Some-clause-refused g c =
    undecided_unrealized c.args.automaton.now c.args.controlled.now c.args.budget c.lift_parted.result c.lift_parted.ensures.refused

pub returns-in-Some-clause-reported : goal.returns-in-Some-clause-reported
returns-in-Some-clause-reported g c =
    observed_as _ _ _ _ _ _ _ _ (λ nodes players lifted. inr lifted) c.lift_parted.ensures.reported

pub returns-in-None-clause-small : goal.returns-in-None-clause-small
returns-in-None-clause-small g c = on_ok_of c.without_start.result _ (inl (rw c.in-None.is at c.in_ok-found.ensures.none))

pub returns-in-Some-clause-small : goal.returns-in-Some-clause-small
returns-in-Some-clause-small g c = on_ok_weaker c.lift_parted.result _ _ (λ fits. inr fits) c.lift_parted.ensures.small

pub returns-in-None-clause-judgeable : goal.returns-in-None-clause-judgeable
returns-in-None-clause-judgeable g c = on_ok_of c.without_start.result _ c.in_ok-found.ensures.judgeable

pub returns-in-None-clause-refused : goal.returns-in-None-clause-refused
returns-in-None-clause-refused g c =
    memory_refused c.without_start.result (IsRealizabilityRefusal c.args.automaton.now c.args.controlled.now c.args.budget) tt c.without_start.ensures.memory

pub returns-in-None-clause-lifted : goal.returns-in-None-clause-lifted
returns-in-None-clause-lifted g c =
    IfOk-weaker c.without_start.result _ _ (λ found right. inl (rw c.in-None.is at c.in_ok-found.ensures.none)) c.without_start.ensures.realizability
