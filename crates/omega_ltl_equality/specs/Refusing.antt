-- Which refusal of equality with a formula applies: that of satisfaction, else, where each word that the automaton
-- accepts satisfies the formula, that of its complement, or else that of the words of the complement.
use Rattle.omega_hoa_automaton.specs.Automaton.{Description}
use Rattle.omega_lang_complement.specs.Complement.{HasComplement, IsComplement}
use Rattle.omega_lang_complement.specs.Refusing.{IsUncomplemented}
use Rattle.omega_ltl_formula.specs.Table.{NumberedFormula, tree_of}
use Rattle.omega_ltl_satisfaction.specs.Refusing.{IsMeetingRefusal, IsSatisfactionRefusal}
use Rattle.omega_ltl_satisfaction.specs.Satisfaction.{IsSatisfaction}
use Rattle.omega_ltl_satisfaction.specs.declared.satisfaction.Satisfaction.TheVariants.{Satisfied}
use Rattle.omega_text.specs.declared.refusal.Refusal.{Refusal}

-- the refusal of equality with a formula. A complement has no universal branching
pub data IsFormulaEqualityRefusal (a : Description) (formula : NumberedFormula) (refusal : Refusal)
    : Type 0 where
  not_satisfied : IsSatisfactionRefusal a formula refusal → IsFormulaEqualityRefusal a formula refusal
  not_complemented : IsSatisfaction a formula Satisfied → IsUncomplemented a refusal
      → IsFormulaEqualityRefusal a formula refusal
  not_met : (complement : Description) → IsSatisfaction a formula Satisfied → HasComplement a
      → IsComplement a complement → IsMeetingRefusal complement (tree_of formula) refusal
      → IsFormulaEqualityRefusal a formula refusal
