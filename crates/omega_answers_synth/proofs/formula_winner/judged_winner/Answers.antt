-- the text is read and judged, or it is not read, or not judged
use Rattle.std.proofs.Common.{ℕ, List, subst}
use Rattle.omega_hoa.specs.Alone.{IsAutomatonText}
use Rattle.omega_answers_synth.specs.FormulaRefusing.{not_judged}
use Rattle.omega_answers_synth.proofs.FormulaWinning.{text_refuses}
use Rattle.omega_answers_synth.proofs.formula_winner.judged_winner.Goals as goal

pub returns-in-Ok-check_winner-clause-winner : goal.returns-in-Ok-check_winner-clause-winner
returns-in-Ok-check_winner-clause-winner c = record {
  proposed = c.requires;
  automaton = c.in-Ok.winner;
  read = subst (λ (text : List ℕ). IsAutomatonText text c.in-Ok.winner) c.as_slice.ensures.value c.in-Ok.ensures.automaton;
  judged = c.in-Ok-check_winner.ensures.judged;
}

pub returns-in-Err-check_winner-clause-refused : goal.returns-in-Err-check_winner-clause-refused
returns-in-Err-check_winner-clause-refused c =
    not_judged c.args.exit c.args.text.items c.in-Ok.winner c.requires
    (subst (λ (text : List ℕ). IsAutomatonText text c.in-Ok.winner) c.as_slice.ensures.value c.in-Ok.ensures.automaton) c.in-Err-check_winner.ensures.refused

pub returns-in-Err-clause-refused : goal.returns-in-Err-clause-refused
returns-in-Err-clause-refused c =
    text_refuses c.args.formula.now c.args.outs.now c.args.exit c.args.text.items c.as_slice.result.now c.requires c.as_slice.ensures.value
    c.in-Err.refusal c.in-Err.ensures.refused c.unread_for_size.result c.unread_for_size.ensures
