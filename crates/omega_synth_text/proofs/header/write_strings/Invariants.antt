-- the strings so far
use Rattle.std.proofs.Common.{◌≡◌, ◌++◌, take}
use Rattle.omega_canon.specs.Parts.{strings}
use Rattle.omega_synth_text.proofs.header.write_strings.Given as goal

abbrev pub invariant-loop-bytes : goal.invariant-loop-bytes
invariant-loop-bytes l = l.out.items ≡ l.fn.out.items ++ strings (take l.bytes-index l.texts)
