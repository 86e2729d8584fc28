-- the game of the automaton, or no automaton is found, or its game is refused
use Rattle.std.proofs.Common.{◌∙◌, ℕ, List, ap, subst, sym}
use Rattle.omega_text.specs.Cases.{IsMemory}
use Rattle.omega_hoa_edges.proofs.Refusals.{passed_on}
use Rattle.omega_synth_check.specs.CounterRefusing.{system_numbers}
use Rattle.omega_synth_realize.specs.Gaming.{IsRealizabilityGame}
use Rattle.omega_answers_synth.specs.FormulaGame.{no_memory, not_determined}
use Rattle.omega_answers_synth.proofs.FormulaWinning.{game_refuses}
use Rattle.omega_answers_synth.proofs.formula_game.formula_game.Goals as goal

pub returns-in_err-automaton-clause-refused : goal.returns-in_err-automaton-clause-refused
returns-in_err-automaton-clause-refused c = passed_on c.from_residual.result _ _ c.from_residual.ensures.1 (not_determined c.in_err-automaton.ensures.refused)

pub returns-in_err-controlled-clause-refused : goal.returns-in_err-controlled-clause-refused
returns-in_err-controlled-clause-refused c =
    passed_on c.from_residual-in_err-controlled.result _ _ c.from_residual-in_err-controlled.ensures.1 (no_memory (subst IsMemory (sym c.in_err-controlled.ensures.memory) tt))

pub returns-in-Ok-clause-game : goal.returns-in-Ok-clause-game
returns-in-Ok-clause-game c = record {
  automaton = c.in_ok-automaton.automaton;
  right = c.in_ok-automaton.ensures.right;
  game = subst (λ (numbers : List ℕ). IsRealizabilityGame c.in_ok-automaton.automaton numbers c.in-Ok.game)
      (c.as_slice-numbers.ensures.value ∙ c.in_ok-controlled.ensures.numbers ∙ ap (λ (names : List (List ℕ)). system_numbers names c.args.outs.now) c.propositions.ensures)
      c.in-Ok.ensures.game;
}

pub returns-clause-refused : goal.returns-clause-refused
returns-clause-refused c =
    game_refuses c.args.formula.now c.args.outs.now c.in_ok-automaton.automaton c.in_ok-automaton.ensures.right c.as_slice-numbers.result.now
    (c.as_slice-numbers.ensures.value ∙ c.in_ok-controlled.ensures.numbers ∙ ap (λ (names : List (List ℕ)). system_numbers names c.args.outs.now) c.propositions.ensures)
    c.in-Err.refusal c.in-Err.ensures.refused c.unjudged_for_form.result c.unjudged_for_form.ensures
