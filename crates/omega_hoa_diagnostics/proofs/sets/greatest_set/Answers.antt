-- `greatest_set`: the greatest set is on one side of the middle.
use Rattle.std.proofs.Common.{◌+◌, ◌-◌, ◌/◌, sym, ◌∙◌, arith}
use Rattle.omega_hoa_acceptance.specs.Meaning.{acc_sets}
use Rattle.omega_hoa_diagnostics.proofs.Greatest.{all_below, some_beyond}
use Rattle.omega_hoa_diagnostics.proofs.sets.greatest_set.Goals as goal

pub loop-low-preserved-then-sets_below : goal.loop-low-preserved-then-sets_below
loop-low-preserved-then-sets_below c =
    let middle = c.loop-low.low + (c.loop-low.high - c.loop-low.low) / 2 in
    let below = all_below (acc_sets c.args.formula.now) (middle + 1) (omega arith) (sym c.sets_below.ensures ∙ c.if-sets_below.true) in
    record { low = c.loop-low.invariant.low; high = omega (arith, below); most = omega (arith, c.loop-low.invariant.most, c.loop-low-test.true) }

pub loop-low-preserved : goal.loop-low-preserved
loop-low-preserved c =
    let middle = c.loop-low.low + (c.loop-low.high - c.loop-low.low) / 2 in
    let beyond = some_beyond (acc_sets c.args.formula.now) (middle + 1) (sym c.sets_below.ensures ∙ c.if-sets_below.false) in
    record {
      low = omega (arith, beyond, c.loop-low.invariant.most, c.loop-low-test.true);
      high = c.loop-low.invariant.high;
      most = c.loop-low.invariant.most;
    }
