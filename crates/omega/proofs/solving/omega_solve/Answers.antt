-- `omega_solve`: what the call that it hands on gives, as an outcome.
use Rattle.std.proofs.Common.{◌≡◌, Bool, false, inl, inr, refl, subst}
use Rattle.omega_solve.specs.Turns.{IsNarrow}
use Rattle.omega_arrays.specs.Arrays.{GameArrays, nodes_in}
use Rattle.omega_arrays.specs.Solving.{AreLifts, budget_of}
use Rattle.omega.specs.Solving.{IsSolveOutcome}
use Rattle.omega.proofs.solving.omega_solve.Goals as goal

pub returns-in-Ok : goal.returns-in-Ok
returns-in-Ok c =
    subst (λ (a : GameArrays). IsSolveOutcome a c.args.by_search c.args.budget c.success.result c.args.winners.now c.solve_arrays.new.winners
    c.args.choices.now c.solve_arrays.new.choices c.args.lifts.now c.in-Ok.made) c.arrays.ensures
    (inl (
      c.success.ensures,
      record {
        shape = c.in-Ok.ensures.faultless refl;
        sized = c.in-Ok.ensures.sized refl;
        narrow = subst (λ (b : Bool). b ≡ false → IsNarrow (nodes_in c.arrays.result)) c.asks.ensures (c.in-Ok.ensures.narrow refl);
        exact = c.in-Ok.ensures.exact;
        players = c.in-Ok.ensures.players;
        lifted = subst (λ (b : Bool). AreLifts b (nodes_in c.arrays.result) (budget_of c.args.budget) c.in-Ok.made) c.asks.ensures c.in-Ok.ensures.lifts;
      },
    ))

pub returns-in-Err : goal.returns-in-Err
returns-in-Err c =
    subst (λ (a : GameArrays). IsSolveOutcome a c.args.by_search c.args.budget c.of.result c.args.winners.now c.solve_arrays.new.winners
    c.args.choices.now c.solve_arrays.new.choices c.args.lifts.now c.args.lifts.now) c.arrays.ensures
    (inr (record {
      fault = c.in-Err.fault;
      outcome_is = c.of.ensures;
      refused = c.in-Err.ensures.refused;
      winners_kept = c.in-Err.ensures.winners_kept;
      choices_kept = c.in-Err.ensures.choices_kept;
      lifts_kept = refl;
    }))
