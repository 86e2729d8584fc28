-- Which refusal of satisfaction by the words that a symbolic word admits applies: that of the automaton of the word,
-- else that for this automaton, which has no universal branching.
use Rattle.omega_hoa_automaton.specs.Automaton.{Description}
use Rattle.omega_lang_inclusion.specs.Written.{IsOversized, IsWordAutomaton}
use Rattle.omega_lang_lasso_word.specs.declared.symbolic_word.SymbolicWord.{SymbolicWord}
use Rattle.omega_ltl_formula.specs.Table.{NumberedFormula}
use Rattle.omega_text.specs.declared.refusal.Refusal.{Refusal}
use Rattle.omega_ltl_satisfaction.specs.Refusing.{IsNegationRefusal}

-- the refusal of such satisfaction
pub data IsWordSatisfactionRefusal (word : SymbolicWord) (formula : NumberedFormula) (refusal : Refusal)
    : Type 0 where
  oversized : IsOversized word refusal → IsWordSatisfactionRefusal word formula refusal
  not_decided : (one : Description) → IsWordAutomaton word one → IsNegationRefusal one formula refusal
      → IsWordSatisfactionRefusal word formula refusal
