-- one cube more
use Rattle.std.proofs.Common.{List, subst, arith}
use Rattle.std.proofs.lemmas.List.{take_all}
use Rattle.omega_ltl_shapes.specs.declared.cube.Cube.{Cube}
use Rattle.omega_ltl_terms.specs.private.Splitting.{ArePushed}
use Rattle.omega_ltl_terms.proofs.SplittingLemmas.{pushed_none, pushed_read}
use Rattle.omega_ltl_terms.proofs.splitting.push_all.Goals as goal

pub loop-cube-init : goal.loop-cube-init
loop-cube-init c = pushed_none c.args.edge.now c.args.parts.now.items

pub loop-cube-preserved : goal.loop-cube-preserved
loop-cube-preserved c =
    pushed_read c.args.edge.now c.args.cubes.now c.loop-cube.cube-index _ c.in_ok-part.part c.args.parts.now.items c.loop-cube.parts.items c.push.new.self.items c.loop-cube-test.true
    c.loop-cube.invariant c.in_ok-part.ensures c.in_ok-push.ensures.items

pub returns-clause-ok : goal.returns-clause-ok
returns-clause-ok c =
    subst (λ (xs : List Cube). ArePushed c.args.edge.now xs c.args.parts.now.items c.loop-cube.parts.items) (take_all c.loop-cube.cube-index c.args.cubes.now (omega arith)) c.loop-cube.invariant
