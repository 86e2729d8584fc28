-- the winner of what is proposed, or it is not decided who wins
use Rattle.std.proofs.Common.{◌∙◌, ℕ, List, ap, subst, sym}
use Rattle.omega_text.specs.Cases.{IsMemory}
use Rattle.omega_hoa_edges.proofs.Refusals.{passed_on}
use Rattle.omega_synth_check.specs.CounterRefusing.{system_numbers}
use Rattle.omega_answers_synth.specs.FormulaRefusing.{no_memory}
use Rattle.omega_answers_synth.specs.Winner.{IsWinner}
use Rattle.omega_answers_synth.proofs.FormulaWinning.{realize_refuses}
use Rattle.omega_answers_synth.proofs.formula_winner.proposed_winner.Goals as goal

pub returns-in_err-controlled-clause-refused : goal.returns-in_err-controlled-clause-refused
returns-in_err-controlled-clause-refused c =
    passed_on c.from_residual.result _ _ c.from_residual.ensures.1 (no_memory (subst IsMemory (sym c.in_err-controlled.ensures.memory) tt))

pub returns-in_err-won-in-Ok-clause-refused : goal.returns-in_err-won-in-Ok-clause-refused
returns-in_err-won-in-Ok-clause-refused c =
    passed_on c.from_residual-in_err-won-in-Ok.result _ _ c.from_residual-in_err-won-in-Ok.ensures.1
    (no_memory (subst IsMemory (sym c.in_err-won-in-Ok.ensures.memory) tt))

pub returns-in-Ok-clause-proposed : goal.returns-in-Ok-clause-proposed
returns-in-Ok-clause-proposed c = record {
  automaton = c.args.candidate.now;
  form = c.requires;
  winner = subst (λ (numbers : List ℕ). IsWinner c.args.candidate.now numbers c.in_ok-won-in-Ok.won.0 c.in_ok-won-in-Ok.won.1.items)
      (c.as_slice-numbers.ensures.value ∙ c.in_ok-controlled.ensures.numbers ∙ ap (λ (names : List (List ℕ)). system_numbers names c.args.outs.now) c.propositions.ensures)
      c.in_ok-won-in-Ok.ensures.winner;
}

pub returns-clause-refused : goal.returns-clause-refused
returns-clause-refused c =
    realize_refuses c.args._formula.now c.args.outs.now c.args.candidate.now c.requires c.as_slice-numbers.result.now
    (c.as_slice-numbers.ensures.value ∙ c.in_ok-controlled.ensures.numbers ∙ ap (λ (names : List (List ℕ)). system_numbers names c.args.outs.now) c.propositions.ensures)
    c.in-Err.refusal c.in-Err.ensures.refused c.unjudged_for_form.result c.unjudged_for_form.ensures
