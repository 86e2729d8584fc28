-- the names so far
use Rattle.std.proofs.Common.{◌≡◌, take}
use Rattle.omega_ltl_formula.specs.private.Keys.{bytes_of}
use Rattle.omega_ltl_formula.proofs.names.copy_of_names.Given as goal

abbrev pub invariant-loop-name : goal.invariant-loop-name
invariant-loop-name l = l.same.items ≡ bytes_of (take l.name-index l.names)
