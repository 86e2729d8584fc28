-- `write_text`: what is left is the rest of the text.
use Rattle.std.proofs.Common.{◌≡◌, length}
use Rattle.omega_io.proofs.Transfers.{IsWriting}
use Rattle.omega_io.proofs.writing.write_text.Given as goal

abbrev pub invariant-loop-rest : goal.invariant-loop-rest
invariant-loop-rest g l = record {
  writing : IsWriting (g.W.Output.contents l.initial.output) (g.W.Output.contents l.output) l.text l.rest;
  counted : g.W.Output.failed l.output ≡ g.W.Output.failed l.initial.output;
}

abbrev pub decreases-loop-rest : goal.decreases-loop-rest
decreases-loop-rest g l = length l.rest
