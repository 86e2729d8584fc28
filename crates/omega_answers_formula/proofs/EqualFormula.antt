-- Want of memory refuses a formula and an automaton.
use Rattle.omega_text.specs.declared.refusal.Refusal.TheVariants.{Memory}
use Rattle.omega_hoa_automaton.specs.Automaton.{Description}
use Rattle.omega_ltl_equality.specs.Equality.{IsGivenFor}
use Rattle.omega_ltl_equality.specs.Refusing.{IsFormulaEqualityRefusal, not_satisfied}
use Rattle.omega_ltl_equality.specs.declared.formula_equality.FormulaEquality.{FormulaEquality}
use Rattle.omega_ltl_equality.specs.declared.formula_equality.FormulaEquality.TheVariants.{Equal, Excess, Missing}
use Rattle.omega_ltl_formula.specs.Table.{NumberedFormula}
use Rattle.omega_ltl_satisfaction.specs.Refusing.{not_decided, not_translated}

-- memory may be wanting after an answer too
pub memory_refused : (formula : NumberedFormula) (a : Description) (answer : FormulaEquality) → IsGivenFor a answer → IsFormulaEqualityRefusal a formula Memory
memory_refused formula a Equal given = not_satisfied (not_decided given.deterministic.plain (not_translated tt))
memory_refused formula a (Excess example) plain = not_satisfied (not_decided plain (not_translated tt))
memory_refused formula a (Missing words) given = not_satisfied (not_decided given.deterministic.plain (not_translated tt))
