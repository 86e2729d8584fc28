-- a fault of the rounds is one of rounds of the automaton
use Rattle.std.proofs.lemmas.Result.{err_from_is_err_and}
use Rattle.omega_solve.specs.Limits.{most_lifts}
use Rattle.omega_synth_realize.proofs.Realized.{start_is_state}
use Rattle.omega_synth_realize.proofs.Refused.{on_ok_of, rounds_undecided}
use Rattle.omega_synth_realize.proofs.Sized.{small}
use Rattle.omega_synth_realize.proofs.deciding.realize_parted.Goals as goal

pub solve_rounds-requires-clause-start : goal.solve_rounds-requires-clause-start
solve_rounds-requires-clause-start c =
    start_is_state c.args.automaton.now c.args.controlled.now c.args.parted.now.rounds c.args.parted.now.letters c.args.parted.now.start c.requires.parted

pub returns-in_err-outcome-clause-refused : goal.returns-in_err-outcome-clause-refused
returns-in_err-outcome-clause-refused c =
    let p = err_from_is_err_and c.from_residual.result c.from_residual.ensures.1 in
    rw (p.1, p.2)
    (rounds_undecided c.args.automaton.now c.args.controlled.now c.args.parted.now.rounds c.args.parted.now.letters c.args.parted.now.start most_lifts
    c.in_err-outcome.field-0.0 c.requires.parted c.requires.judgeable c.in_err-outcome.ensures.refused)

pub returns-clause-small : goal.returns-clause-small
returns-clause-small c =
    on_ok_of c.realizability_of.result _
    (small c.args.automaton.now c.args.controlled.now c.args.parted.now.rounds c.args.parted.now.letters c.args.parted.now.start c.requires.parted
    c.in_ok-outcome.ensures.fits)
