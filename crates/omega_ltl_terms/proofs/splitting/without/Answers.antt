-- one cube more
use Rattle.std.proofs.Common.{[], sym, subst}
use Rattle.omega_ltl_terms.specs.private.Splitting.{AreWithout}
use Rattle.omega_ltl_terms.proofs.SplittingLemmas.{without_none, without_read}
use Rattle.omega_ltl_terms.proofs.splitting.without.Goals as goal

pub loop-cube-init : goal.loop-cube-init
loop-cube-init c = subst (AreWithout [] c.args.other) (sym c.new-left.ensures.items) (without_none c.args.other)

pub loop-cube-preserved : goal.loop-cube-preserved
loop-cube-preserved c =
    without_read c.args.cubes.now c.loop-cube.cube-index _ c.args.other c.loop-cube.left.items c.push_without.new.left.items c.loop-cube-test.true c.loop-cube.invariant
    c.in_ok-push_without.ensures
