-- The bytes so far were read.
use Rattle.std.proofs.Common.{◌≤◌, length}
use Rattle.omega_tests.specs.Read.{HasReadTo}
use Rattle.omega_tests.proofs.texts.tokenizer.are_stops.Given as goal

abbrev pub invariant-loop-stop : goal.invariant-loop-stop
invariant-loop-stop g l = record { read : HasReadTo (g.T.ByteTokenizer.read l.tokenizer) l.next; within : l.next ≤ length l.text }
