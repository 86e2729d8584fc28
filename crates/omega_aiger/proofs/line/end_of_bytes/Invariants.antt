-- The bytes that are left to be found.
use Rattle.std.proofs.Common.{◌≤◌, length, drop}
use Rattle.omega_aiger.specs.Layout.{Layout}
use Rattle.omega_aiger.specs.Lines.{bytes_then}
use Rattle.omega_aiger.specs.private.Outcome.{GoesOn}
use Rattle.omega_aiger.proofs.line.end_of_bytes.Given as goal

abbrev pub invariant-loop-byte : goal.invariant-loop-byte
invariant-loop-byte l = record {
  within : l.end ≤ length l.text;
  read : (next : Layout) → GoesOn l.text l.at (bytes_then l.wanted next) l.end (bytes_then (drop l.byte-index l.wanted) next);
}
