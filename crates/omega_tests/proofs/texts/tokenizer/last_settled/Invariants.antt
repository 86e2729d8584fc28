-- The bytes so far were read.
use Rattle.omega_tests.specs.Read.{HasReadTo}
use Rattle.omega_tests.proofs.texts.tokenizer.last_settled.Given as goal

abbrev pub invariant-loop-place : goal.invariant-loop-place
invariant-loop-place g l = HasReadTo (g.T.ByteTokenizer.read l.tokenizer) l.place
