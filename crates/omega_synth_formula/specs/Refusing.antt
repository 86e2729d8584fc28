-- Which automata are not judged for a formula: those that cannot be read as controllers, and those whose letters or
-- whose satisfaction of the formula cannot be decided.
use Rattle.std.specs.Prelude.{ℕ, List}
use Rattle.omega_text.specs.Cases.{IsMemory}
use Rattle.omega_text.specs.declared.refusal.Refusal.{Refusal}
use Rattle.omega_hoa_automaton.specs.Automaton.{Description}
use Rattle.omega_ltl_formula.specs.Table.{NumberedFormula}
use Rattle.omega_ltl_satisfaction.specs.Refusing.{IsSatisfactionRefusal}
use Rattle.omega_synth_check.specs.Refusing.{AreLettersJudged, IsFormRefusal, IsLetterRefusal, IsReadable}

-- the refusal of the judge, in the order of its steps; memory can be wanting in each
pub data IsFormulaJudgeRefusal (formula : NumberedFormula) (controller : Description)
    (controlled : List ℕ) (refusal : Refusal) : Type 0 where
  not_read : IsFormRefusal controller refusal
      → IsFormulaJudgeRefusal formula controller controlled refusal
  no_memory : IsMemory refusal → IsFormulaJudgeRefusal formula controller controlled refusal
  not_searched : IsReadable controller → IsLetterRefusal controller controlled refusal
      → IsFormulaJudgeRefusal formula controller controlled refusal
  not_decided : AreLettersJudged controller controlled → IsSatisfactionRefusal controller formula refusal
      → IsFormulaJudgeRefusal formula controller controlled refusal
