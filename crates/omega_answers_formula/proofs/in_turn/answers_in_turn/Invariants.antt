-- `answers_in_turn`: the formulas before this one are answered.
use Rattle.std.proofs.Common.{take}
use Rattle.omega_answers_formula.specs.InTurn.{AreAnswered}
use Rattle.omega_answers_formula.proofs.in_turn.answers_in_turn.Given as goal

abbrev pub invariant-loop-place : goal.invariant-loop-place
invariant-loop-place g l =
    AreAnswered (g.Q.FormulaQuestion.answers l.question) (take l.place l.formulas) l.exit l.text.items
