-- `omega_verify`: what the call that it hands on gives, as an outcome.
use Rattle.std.proofs.Common.{inl, inr, refl, subst}
use Rattle.omega_arrays.specs.Arrays.{GameArrays}
use Rattle.omega.specs.Verifying.{IsVerifyOutcome}
use Rattle.omega.proofs.verifying.omega_verify.Goals as goal

pub returns-in-Ok : goal.returns-in-Ok
returns-in-Ok c =
    subst (λ (a : GameArrays). IsVerifyOutcome a c.args.winners.now c.args.choices.now c.success.result c.args.verdict.now c.in-Ok.made
    c.args.stem.now c.verify_arrays.new.stem c.args.cycle.now c.verify_arrays.new.cycle) c.arrays.ensures
    (inl (
      c.success.ensures,
      record {
        shape = c.in-Ok.ensures.faultless refl;
        sized = c.in-Ok.ensures.sized refl;
        solution = c.in-Ok.ensures.solution refl;
        judged = c.in-Ok.ensures.judged;
      },
    ))

pub returns-in-Err : goal.returns-in-Err
returns-in-Err c =
    subst (λ (a : GameArrays). IsVerifyOutcome a c.args.winners.now c.args.choices.now c.of.result c.args.verdict.now c.args.verdict.now
    c.args.stem.now c.verify_arrays.new.stem c.args.cycle.now c.verify_arrays.new.cycle) c.arrays.ensures
    (inr (record {
      fault = c.in-Err.fault;
      outcome_is = c.of.ensures;
      refused = c.in-Err.ensures.refused;
      verdict_kept = refl;
      stem_kept = c.in-Err.ensures.stem_kept;
      cycle_kept = c.in-Err.ensures.cycle_kept;
    }))
