-- one cube more
use Rattle.std.proofs.Common.{◌≡◌, ◌<◌, ℕ, List, length, take, ap, subst, arith}
use Rattle.std.proofs.lemmas.List.{length-take-le, take_all}
use Rattle.omega_ltl_shapes.specs.declared.cube.Cube.{Cube}
use Rattle.omega_ltl_translation.specs.private.Labels.{IsLabelOfCubes}
use Rattle.omega_ltl_translation.proofs.LabelLemmas.{cubes_front, operand_of_cubes}
use Rattle.omega_ltl_translation.proofs.labels.label_of.Goals as goal

pub loop-cube-preserved : goal.loop-cube-preserved
loop-cube-preserved c =
    let i : ℕ = c.loop-cube.cube-index in
    let below : i < length c.args.cubes.now = omega arith in
    cubes_front c.args.cubes.now i _ c.loop-cube.label c.in_ok-one.one c.in_ok-disjunction.field-0 below c.loop-cube.invariant c.in_ok-one.ensures.label c.in_ok-disjunction.ensures.ok

-- there are cubes
pub returns-in-None-clause-label : goal.returns-in-None-clause-label
returns-in-None-clause-label c =
    let all : IsLabelOfCubes c.args.cubes.now c.loop-cube.label =
    subst (λ (cs : List Cube). IsLabelOfCubes cs c.loop-cube.label) (take_all c.loop-cube.cube-index c.args.cubes.now (omega arith)) c.loop-cube.invariant in
    let none : length c.args.cubes.now ≡ 0 = ap length (subst (IsLabelOfCubes c.args.cubes.now) c.in-None.is all).none in
    absurd (omega (arith, none, c.requires.0))

pub disjunction-requires-clause-one : goal.disjunction-requires-clause-one
disjunction-requires-clause-one c = operand_of_cubes (take c.loop-cube.cube-index c.args.cubes.now) c.loop-cube.label
    (omega (arith, c.requires.1, length-take-le c.loop-cube.cube-index c.args.cubes.now (omega arith))) c.loop-cube.invariant

pub disjunction-requires-clause-other : goal.disjunction-requires-clause-other
disjunction-requires-clause-other c = omega (arith, c.in_ok-one.ensures.label.shallow)
