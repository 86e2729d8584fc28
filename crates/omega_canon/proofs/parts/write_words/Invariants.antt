-- `write_words`: the items before this one are written.
use Rattle.std.proofs.Common.{◌≡◌, ◌++◌, take}
use Rattle.omega_canon.specs.Parts.{words}
use Rattle.omega_canon.proofs.parts.write_words.Given as goal

abbrev pub invariant-loop-bytes : goal.invariant-loop-bytes
invariant-loop-bytes l = l.out.items ≡ l.fn.out.items ++ words (take l.bytes-index l.texts)
