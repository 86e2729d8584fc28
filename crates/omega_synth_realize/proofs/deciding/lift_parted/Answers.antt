-- a fault of the rounds is one of rounds of the automaton, and so are the runs
use Rattle.std.proofs.Common.{◌≡◌, inr, None, Some, subst, sym}
use Rattle.std.proofs.lemmas.Result.{IfOk-weaker, err_from_is_err_and}
use Rattle.omega_text.specs.declared.refusal.Refusal.TheVariants.{Memory}
use Rattle.omega_game_values.specs.declared.player.Player.{Player}
use Rattle.omega_synth_realize.specs.Solving.{IsLiftedInRounds}
use Rattle.omega_solve.proofs.within_budget.Observed.{observed_after, observed_alike, observed_as}
use Rattle.omega_synth_realize.proofs.Realized.{start_is_state}
use Rattle.omega_synth_realize.proofs.Refused.{lifts_parted, on_ok_of, parted_refused, rounds_undecided}
use Rattle.omega_synth_realize.proofs.Sized.{small}
use Rattle.omega_synth_realize.proofs.deciding.lift_parted.Goals as goal

pub lift_rounds-requires-clause-start : goal.lift_rounds-requires-clause-start
lift_rounds-requires-clause-start g c =
    start_is_state c.args.automaton.now c.args.controlled.now c.args.parted.now.rounds c.args.parted.now.letters c.args.parted.now.start c.requires.parted

pub returns-in_err-outcome-clause-refused : goal.returns-in_err-outcome-clause-refused
returns-in_err-outcome-clause-refused g c =
    let p = err_from_is_err_and c.from_residual.result c.from_residual.ensures.1 in
    rw (p.1, p.2)
    (rounds_undecided c.args.automaton.now c.args.controlled.now c.args.parted.now.rounds c.args.parted.now.letters c.args.parted.now.start c.args.budget
    c.in_err-outcome.field-0.0 c.requires.parted c.requires.judgeable c.in_err-outcome.ensures.refused)

pub returns-in_err-outcome-clause-reported : goal.returns-in_err-outcome-clause-reported
returns-in_err-outcome-clause-reported g c =
    observed_alike _ _ _ _ c.from_residual.result _ c.in_err-outcome.field-0.0 _ _ c.from_residual.ensures.1 (λ e same. same)
    (observed_as _ _ _ _ _ _ _ _
    (lifts_parted c.args.automaton.now c.args.controlled.now c.args.parted.now.rounds c.args.parted.now.letters c.args.parted.now.start c.args.budget
    c.requires.parted (Some c.in_err-outcome.field-0.0))
    (rw c.in_err-outcome.was at c.lift_rounds.ensures.reported))

pub returns-clause-reported : goal.returns-clause-reported
returns-clause-reported g c =
    observed_after _ _ _ _ c.realizability_of.result (λ refusal. refusal ≡ Memory) _ _ c.realizability_of.ensures.memory (λ e. cc)
    (parted_refused c.args.automaton.now c.args.controlled.now)
    (observed_as _ _ _ _ _ _ _ _
    (lifts_parted c.args.automaton.now c.args.controlled.now c.args.parted.now.rounds c.args.parted.now.letters c.args.parted.now.start c.args.budget
    c.requires.parted None)
    (rw c.in_ok-outcome.was at c.lift_rounds.ensures.reported))

pub returns-clause-small : goal.returns-clause-small
returns-clause-small g c =
    on_ok_of c.realizability_of.result _
    (small c.args.automaton.now c.args.controlled.now c.args.parted.now.rounds c.args.parted.now.letters c.args.parted.now.start c.requires.parted
    c.in_ok-outcome.ensures.fits)

pub returns-clause-lifted : goal.returns-clause-lifted
returns-clause-lifted g c =
    IfOk-weaker c.realizability_of.result _ _
    (λ found is. inr (record {
      rounds = c.args.parted.now.rounds;
      letters = c.args.parted.now.letters;
      start = c.args.parted.now.start;
      parted = c.requires.parted;
      is = subst (λ (winner : Player). IsLiftedInRounds c.args.parted.now.rounds c.args.budget winner) (sym is) c.in_ok-outcome.ensures.lifted;
    }))
    c.realizability_of.ensures.winner
