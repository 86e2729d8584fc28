-- the word of a counterexample is accepted and does not satisfy the formula, or the other way round
use Rattle.omega_hoa_automaton.specs.Automaton.{Description}
use Rattle.omega_ltl_formula.specs.Table.{NumberedFormula}
use Rattle.omega_text.specs.Omniscience.{LimitedPrincipleOfOmniscience}
use Rattle.omega_ltl_equality.specs.Equality.{IsFormulaEquality}
use Rattle.omega_ltl_equality.specs.Laws.{AreAlike}
use Rattle.omega_ltl_equality.specs.declared.formula_equality.FormulaEquality.{FormulaEquality}
use Rattle.omega_ltl_equality.specs.declared.formula_equality.FormulaEquality.TheVariants.{Equal, Excess, Missing}
use Rattle.omega_ltl_equality.proofs.laws.answers_exclude_each_other.Goals as goal

module _ (omniscience : LimitedPrincipleOfOmniscience) (a : Description) (formula : NumberedFormula) where
  alike : (one other : FormulaEquality) → IsFormulaEquality a formula one → IsFormulaEquality a formula other → AreAlike one other
  alike Equal Equal is also = tt
  alike (Excess example) (Excess other) is also = tt
  alike (Missing words) (Missing others) is also = tt
  alike Equal (Excess example) equal excess = excess.wanted.not_satisfied ((equal omniscience excess.word).0 excess.wanted.accepted)
  alike (Excess example) Equal excess equal = excess.wanted.not_satisfied ((equal omniscience excess.word).0 excess.wanted.accepted)
  alike Equal (Missing words) equal missing = missing.1.missing.not_accepted ((equal omniscience missing.1.word).1 missing.1.missing.satisfied)
  alike (Missing words) Equal missing equal = missing.1.missing.not_accepted ((equal omniscience missing.1.word).1 missing.1.missing.satisfied)
  alike (Excess example) (Missing words) excess missing = excess.wanted.not_satisfied (missing.0 omniscience excess.word excess.wanted.accepted)
  alike (Missing words) (Excess example) missing excess = excess.wanted.not_satisfied (missing.0 omniscience excess.word excess.wanted.accepted)

pub returns : goal.returns
returns c = alike
