use Rattle.std.proofs.Common.{take}
use Rattle.omega_ltl_terms.specs.private.Splitting.{AreWithout}
use Rattle.omega_ltl_terms.proofs.splitting.without.Given as goal

-- the cubes so far
abbrev pub invariant-loop-cube : goal.invariant-loop-cube
invariant-loop-cube l = AreWithout (take l.cube-index l.cubes) l.other l.left.items
