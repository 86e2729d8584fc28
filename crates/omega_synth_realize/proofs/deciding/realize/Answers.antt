-- the refusals of the steps
use Rattle.std.proofs.Common.{inl, inr}
use Rattle.std.proofs.lemmas.Result.{err_from_is_err_and}
use Rattle.omega_solve.specs.Limits.{most_lifts}
use Rattle.omega_synth_realize.specs.Refusing.{IsRealizabilityRefusal}
use Rattle.omega_synth_realize.proofs.Refused.{on_ok_of, undecided_unrealized, unparted_unrealized}
use Rattle.omega_synth_realize.proofs.Sized.{on_ok_weaker}
use Rattle.omega_synth_realize.proofs.Strategies.{memory_refused}
use Rattle.omega_synth_realize.proofs.deciding.realize.Goals as goal

pub returns-in_err-found-clause-refused : goal.returns-in_err-found-clause-refused
returns-in_err-found-clause-refused c =
    let p = err_from_is_err_and c.from_residual.result c.from_residual.ensures.1 in
    rw (p.1, p.2) (unparted_unrealized c.args.automaton.now c.args.controlled.now most_lifts c.in_err-found.field-0.0 c.in_err-found.ensures.refused)

pub returns-in-Some-clause-judgeable : goal.returns-in-Some-clause-judgeable
returns-in-Some-clause-judgeable c = on_ok_of c.realize_parted.result _ c.in_ok-found.ensures.judgeable

pub returns-in-Some-clause-refused : goal.returns-in-Some-clause-refused
returns-in-Some-clause-refused c =
    undecided_unrealized c.args.automaton.now c.args.controlled.now most_lifts c.realize_parted.result c.realize_parted.ensures.refused

pub returns-in-None-clause-small : goal.returns-in-None-clause-small
returns-in-None-clause-small c = on_ok_of c.without_start.result _ (inl (rw c.in-None.is at c.in_ok-found.ensures.none))

pub returns-in-Some-clause-small : goal.returns-in-Some-clause-small
returns-in-Some-clause-small c = on_ok_weaker c.realize_parted.result _ _ (λ fits. inr fits) c.realize_parted.ensures.small

pub returns-in-None-clause-judgeable : goal.returns-in-None-clause-judgeable
returns-in-None-clause-judgeable c = on_ok_of c.without_start.result _ c.in_ok-found.ensures.judgeable

pub returns-in-None-clause-refused : goal.returns-in-None-clause-refused
returns-in-None-clause-refused c =
    memory_refused c.without_start.result (IsRealizabilityRefusal c.args.automaton.now c.args.controlled.now most_lifts) tt c.without_start.ensures.memory
