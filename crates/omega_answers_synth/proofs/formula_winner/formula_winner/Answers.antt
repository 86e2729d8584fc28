-- no automaton is proposed
use Rattle.omega_hoa_edges.proofs.Refusals.{passed_on}
use Rattle.omega_answers_synth.specs.FormulaRefusing.{not_proposed}
use Rattle.omega_answers_synth.proofs.formula_winner.formula_winner.Goals as goal

pub returns-in_err-candidate-clause-refused : goal.returns-in_err-candidate-clause-refused
returns-in_err-candidate-clause-refused c = passed_on c.from_residual.result _ _ c.from_residual.ensures.1 (not_proposed c.in_err-candidate.ensures.err)
