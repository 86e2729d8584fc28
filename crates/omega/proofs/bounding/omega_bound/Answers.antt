-- `omega_bound`: what the call that it hands on gives, as an outcome.
use Rattle.std.proofs.Common.{inl, inr, refl, subst}
use Rattle.omega_arrays.specs.Arrays.{GameArrays}
use Rattle.omega.specs.Bounding.{IsBoundOutcome}
use Rattle.omega.proofs.bounding.omega_bound.Goals as goal

pub returns-in-Ok : goal.returns-in-Ok
returns-in-Ok c =
    subst (λ (a : GameArrays). IsBoundOutcome a c.success.result c.args.bounds.now c.in-Ok.made) c.arrays.ensures
    (inl (
      c.success.ensures,
      record {
        shape = c.in-Ok.ensures.faultless refl;
        sized = c.in-Ok.ensures.sized refl;
        zero = c.in-Ok.ensures.zero;
        one = c.in-Ok.ensures.one;
      },
    ))

pub returns-in-Err : goal.returns-in-Err
returns-in-Err c =
    subst (λ (a : GameArrays). IsBoundOutcome a c.of.result c.args.bounds.now c.args.bounds.now) c.arrays.ensures
    (inr (record { fault = c.in-Err.fault; outcome_is = c.of.ensures; refused = c.in-Err.ensures.refused; kept = refl }))
