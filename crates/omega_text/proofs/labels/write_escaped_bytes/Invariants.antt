-- `write_escaped_bytes`: the bytes before this one are written.
use Rattle.std.proofs.Common.{◌≡◌, ◌++◌, take}
use Rattle.omega_text.specs.Labels.{escaped_bytes}
use Rattle.omega_text.proofs.labels.write_escaped_bytes.Given as goal

abbrev pub invariant-loop-byte : goal.invariant-loop-byte
invariant-loop-byte l = l.out.items ≡ l.fn.out.items ++ escaped_bytes (take l.byte-index l.bytes)
