-- both lists are given
use Rattle.std.proofs.Common.{refl, sym, ◌∙◌}
use Rattle.std.proofs.lemmas.Bool.{false≢true}
use Rattle.omega_answers_synth.proofs.outputs.apart_outputs.Goals as goal

pub returns-then-not-are_parted-clause-refused : goal.returns-then-not-are_parted-clause-refused
returns-then-not-are_parted-clause-refused c = (refl, λ parted. false≢true (sym c.if-not-are_parted.true ∙ c.are_parted.ensures.1 parted))

pub returns-clause-outputs : goal.returns-clause-outputs
returns-clause-outputs c = (c.are_parted.ensures.0 c.if-not-are_parted.false, c.in_ok-copy_of_strings.ensures)
