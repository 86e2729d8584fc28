-- the refusals of the steps
use Rattle.std.proofs.lemmas.Result.{err_from_is_err_and}
use Rattle.omega_synth_realize.proofs.Refused.{unjudgeable_unparted}
use Rattle.omega_synth_realize.proofs.parting.parted_rounds.Goals as goal

pub returns-in_err-kind-clause-refused : goal.returns-in_err-kind-clause-refused
returns-in_err-kind-clause-refused c =
    let p = err_from_is_err_and c.from_residual.result c.from_residual.ensures.1 in
    rw (p.1, p.2) (unjudgeable_unparted c.args.automaton.now c.args.controlled.now c.in_err-kind.field-0.0 c.in_err-kind.ensures.refused)
