use Rattle.std.proofs.Common.{take}
use Rattle.omega_ltl_translation.specs.private.Labels.{IsLabelOfCubes}
use Rattle.omega_ltl_translation.proofs.labels.label_of.Given as goal

-- the label of the cubes so far
abbrev pub invariant-loop-cube : goal.invariant-loop-cube
invariant-loop-cube l = IsLabelOfCubes (take l.cube-index l.cubes) l.label
