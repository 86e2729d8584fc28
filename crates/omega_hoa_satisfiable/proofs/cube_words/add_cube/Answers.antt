-- The lanes were added to all words.
use Rattle.std.proofs.Common.{◌≡◌, ℕ, arith, subst}
use Rattle.omega_hoa_satisfiable.proofs.CubeWords.{AreAdded, added-none, cube-added}
use Rattle.omega_hoa_satisfiable.proofs.cube_words.add_cube.Goals as goal

pub loop-block-init : goal.loop-block-init
loop-block-init c = added-none c.args.literals c.low_lanes-lanes.result c.args.words.now

pub returns : goal.returns
returns c =
    let all : c.loop-block.block ≡ 64 = omega (arith, c.loop-block-test.false, c.loop-block.auto.block-end) in
    cube-added c.args.literals c.low_lanes-lanes.result c.args.words.now c.loop-block.words (omega arith) (omega arith) c.low_lanes-lanes.ensures
    (subst (λ (count : ℕ). AreAdded c.args.literals c.low_lanes-lanes.result c.args.words.now c.loop-block.words count) all c.loop-block.invariant)
