-- Both lists end alike with one number more as long as these are the same.
use Rattle.std.proofs.Common.{arith}
use Rattle.omega_lang_lasso_search.proofs.Entering.{none_shared, one_more_shared}
use Rattle.omega_lang_lasso_search.proofs.turning.shared_end.Goals as goal

pub loop-shared-init : goal.loop-shared-init
loop-shared-init c =
    (omega arith, omega (arith, c.min-most.ensures), omega (arith, c.min-most.ensures), none_shared c.args.stem.now c.args.cycle.now)

pub loop-shared-preserved : goal.loop-shared-preserved
loop-shared-preserved c =
    let before = c.loop-shared.invariant in
    let below = c.loop-shared-test.true in (
      omega (arith, below),
      before.1,
      before.2,
      one_more_shared c.args.stem.now c.args.cycle.now c.loop-shared.shared (omega (arith, below, before.1)) (omega (arith, below, before.2))
          c.if-stem-shared.true before.3,
    )

pub returns-else-stem-shared-clause-same : goal.returns-else-stem-shared-clause-same
returns-else-stem-shared-clause-same c = c.loop-shared.invariant.3

pub returns-after-loop-shared-clause-stem : goal.returns-after-loop-shared-clause-stem
returns-after-loop-shared-clause-stem c = omega (arith, c.loop-shared.invariant.0, c.loop-shared.invariant.1)

pub returns-after-loop-shared-clause-cycle : goal.returns-after-loop-shared-clause-cycle
returns-after-loop-shared-clause-cycle c = omega (arith, c.loop-shared.invariant.0, c.loop-shared.invariant.2)

pub returns-after-loop-shared-clause-same : goal.returns-after-loop-shared-clause-same
returns-after-loop-shared-clause-same c = c.loop-shared.invariant.3
