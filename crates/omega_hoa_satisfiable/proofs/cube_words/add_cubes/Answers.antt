-- A cube more.
use Rattle.std.proofs.Common.{Some, ◌∷◌, ◌∙◌, ap}
use Rattle.omega_hoa_satisfiable.proofs.CubeWords.{cube-more, words-more}
use Rattle.omega_hoa_satisfiable.proofs.cube_words.add_cubes.Goals as goal

pub loop-at-preserved : goal.loop-at-preserved
loop-at-preserved c =
    let cubes = c.loop-at.invariant.0 in (
      c.in-Some-Cube.literals ∷ cubes,
      (
        rw (c.new-reader-in-Some-Cube.ensures)
            (cube-more c.args.nodes.now c.loop-at.at _ (record { reader = c.loop-at.reader; cubes = cubes }) c.before-in-loop-at.result c.in-Some-Cube.literals c.loop-at-test.true
            c.loop-at.auto.at c.loop-at.invariant.1.0 c.before-in-loop-at.ensures (c.in-Some-Cube.is ∙ ap Some c.in-Some-Cube.field-0-is)),
        words-more c.in-Some-Cube.literals c.loop-at.words c.add_cube.new.words c.add_cube.ensures cubes c.loop-at.invariant.1.1,
      ),
    )
