use Rattle.std.proofs.Common.{take}
use Rattle.omega_ltl_terms.specs.private.Splitting.{AreLeft}
use Rattle.omega_ltl_terms.proofs.splitting.cubes_left.Given as goal

-- without the letters of those so far
abbrev pub invariant-loop-less : goal.invariant-loop-less
invariant-loop-less l = AreLeft (take l.less-index l.before) l.edge l.cubes.items
