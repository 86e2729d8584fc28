-- `write_bytes`: what is written and the bytes that are left are all bytes.
use Rattle.std.proofs.Common.{◌≡◌, ◌++◌, drop}
use Rattle.std.specs.List.{flat_map}
use Rattle.omega_pg_diagnostics.specs.Places.{shown_byte}
use Rattle.omega_pg_diagnostics.proofs.places.write_bytes.Given as goal

abbrev pub invariant-loop-byte : goal.invariant-loop-byte
invariant-loop-byte l =
    l.out.items ++ flat_map shown_byte (drop l.byte-index l.bytes) ≡ l.fn.out.items ++ flat_map shown_byte l.bytes
