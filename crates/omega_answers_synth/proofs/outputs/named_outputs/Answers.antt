-- the outputs are listed
use Rattle.std.proofs.Common.{refl, sym, ◌∙◌}
use Rattle.std.proofs.lemmas.Bool.{false≢true}
use Rattle.omega_answers_synth.proofs.outputs.named_outputs.Goals as goal

pub returns-then-not-are_named-clause-refused : goal.returns-then-not-are_named-clause-refused
returns-then-not-are_named-clause-refused c = (refl, λ named. false≢true (sym c.if-not-are_named.true ∙ c.are_named.ensures.1 named))

pub returns-clause-outputs : goal.returns-clause-outputs
returns-clause-outputs c = (c.are_named.ensures.0 c.if-not-are_named.false, c.in_ok-copy_of_strings.ensures)
