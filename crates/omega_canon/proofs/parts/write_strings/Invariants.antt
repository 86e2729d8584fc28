-- `write_strings`: the items before this one are written.
use Rattle.std.proofs.Common.{◌≡◌, ◌++◌, take}
use Rattle.omega_canon.specs.Parts.{strings}
use Rattle.omega_canon.proofs.parts.write_strings.Given as goal

abbrev pub invariant-loop-bytes : goal.invariant-loop-bytes
invariant-loop-bytes l = l.out.items ≡ l.fn.out.items ++ strings (take l.bytes-index l.texts)
