use Rattle.std.proofs.Common.{take}
use Rattle.omega_ltl_terms.specs.private.Splitting.{ArePushed}
use Rattle.omega_ltl_terms.proofs.splitting.push_all.Given as goal

-- the parts with the cubes so far
abbrev pub invariant-loop-cube : goal.invariant-loop-cube
invariant-loop-cube l = ArePushed l.edge (take l.cube-index l.cubes) l.initial.parts.items l.parts.items
