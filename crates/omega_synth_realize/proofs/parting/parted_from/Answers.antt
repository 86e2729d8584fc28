-- the refusals of making the rounds
use Rattle.std.proofs.lemmas.Result.{err_from_is_err_and}
use Rattle.omega_synth_realize.proofs.Refused.{unmade_unparted}
use Rattle.omega_synth_realize.proofs.parting.parted_from.Goals as goal

pub returns-in_err-made-clause-refused : goal.returns-in_err-made-clause-refused
returns-in_err-made-clause-refused c =
    let p = err_from_is_err_and c.from_residual.result c.from_residual.ensures.1 in
    rw (p.1, p.2)
    (unmade_unparted c.args.automaton.now c.args.controlled.now (record { judgeable = c.requires.judgeable; begins = (c.args.start, c.requires.start) })
    c.in_err-made.field-0.0 c.in_err-made.ensures.refused)

pub returns-clause-parted : goal.returns-clause-parted
returns-clause-parted c = record {
  automaton = c.keeps_limits.ensures;
  kind = c.args.kind;
  kind_is = c.requires.kind;
  begins = c.requires.start;
  one_start = c.requires.judgeable.deterministic.one_start;
  rounds_are = c.in_ok-made.ensures.rounds_of;
  by_state = c.in_ok-made.ensures.by_state;
}
