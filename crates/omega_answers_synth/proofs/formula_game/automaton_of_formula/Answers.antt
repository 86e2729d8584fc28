-- what was judged is what was proposed
use Rattle.std.proofs.Common.{inl, inr}
use Rattle.omega_hoa_edges.proofs.Refusals.{passed_on}
use Rattle.omega_answers_synth.proofs.formula_game.automaton_of_formula.Goals as goal

pub returns-in_err-candidate-clause-refused : goal.returns-in_err-candidate-clause-refused
returns-in_err-candidate-clause-refused c = passed_on c.from_residual.result _ _ c.from_residual.ensures.1 (inl c.in_err-candidate.ensures.err)

pub returns-in-Ok-clause-right : goal.returns-in-Ok-clause-right
returns-in-Ok-clause-right c = record { judged = c.in-Ok.ensures.judged; form = rw c.in-Ok.ensures.same c.in_ok-candidate.ensures.candidate }

pub returns-in-Err-clause-refused : goal.returns-in-Err-clause-refused
returns-in-Err-clause-refused c = inr (c.in_ok-candidate.candidate, c.in_ok-candidate.ensures.candidate, c.in-Err.ensures.refused)
