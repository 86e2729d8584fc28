-- `formula_refusals_are_no_failures`: each refusal has another number.
use Rattle.omega_answers_synth.proofs.Unfailed.{no_refusal}
use Rattle.omega_answers_synth.proofs.laws.formula_refusals_are_no_failures.Goals as goal

pub returns : goal.returns
returns c = no_refusal
