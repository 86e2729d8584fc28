-- Which refusal of an automaton that is met with a formula applies: that of universal branching, else that of the
-- automaton of a conjunct of the formula, or that of the product of this automaton with the one before it.
use Rattle.std.specs.Prelude.{◌≡◌, false, true}
use Rattle.omega_hoa_automaton.specs.Automaton.{Description}
use Rattle.omega_hoa_automaton.specs.Branching.{has_universal_branching}
use Rattle.omega_lang_product.specs.Product.{IsProduct}
use Rattle.omega_lang_product.specs.Refusing.{IsProductRefusal}
use Rattle.omega_ltl_formula.specs.Formula.{FormulaTree, unary}
use Rattle.omega_ltl_formula.specs.Table.{NumberedFormula, tree_of}
use Rattle.omega_ltl_formula.specs.declared.operators.UnaryOperator.TheVariants.{Not}
use Rattle.omega_ltl_terms.specs.Adding.{IsLarge}
use Rattle.omega_ltl_translation.specs.Translation.{IsGeneralizedBuchi, IsTranslation}
use Rattle.omega_text.specs.declared.refusal.Refusal.{Refusal}
use Rattle.omega_text.specs.declared.refusal.Refusal.TheVariants.{Task}
use Rattle.omega_text.specs.declared.refusal.task.TaskFault.TheVariants.{UniversalBranch}
use Rattle.omega_ltl_satisfaction.specs.Conjuncts.{IsConjunctOf}

-- an automaton is that of a conjunct of a formula
pub record IsConjunctAutomaton (whole : FormulaTree) (a : Description) : Type 0 where
  pub conjunct : FormulaTree
  pub of_whole : IsConjunctOf whole conjunct
  pub translates : IsTranslation conjunct a
  pub buchi : IsGeneralizedBuchi a

-- an automaton is a given one, or its product with automata of conjuncts, one after the other
pub data IsMetWithConjuncts (whole : FormulaTree) (a : Description) : Description → Type 0 where
  none : IsMetWithConjuncts whole a a
  one_more : (one conjunct both : Description) → IsMetWithConjuncts whole a one
      → IsConjunctAutomaton whole conjunct → IsProduct one conjunct both → IsMetWithConjuncts whole a both

-- the refusal for an automaton without universal branching: that of a translation, or that of a product with the
-- automaton of a conjunct
pub data IsMeetingRefusal (a : Description) (whole : FormulaTree) (refusal : Refusal) : Type 0 where
  not_translated : IsLarge refusal → IsMeetingRefusal a whole refusal
  not_met : (one conjunct : Description) → IsMetWithConjuncts whole a one
      → has_universal_branching one ≡ false → IsConjunctAutomaton whole conjunct
      → IsProductRefusal one conjunct refusal → IsMeetingRefusal a whole refusal

-- the refusal for each automaton
pub data IsWordsRefusal (a : Description) (whole : FormulaTree) (refusal : Refusal) : Type 0 where
  branched : has_universal_branching a ≡ true → refusal ≡ Task UniversalBranch
      → IsWordsRefusal a whole refusal
  not_decided : has_universal_branching a ≡ false → IsMeetingRefusal a whole refusal
      → IsWordsRefusal a whole refusal

-- the refusal for an automaton without universal branching and the negation of a formula
abbrev pub IsNegationRefusal : Description → NumberedFormula → Refusal → Type 0
IsNegationRefusal a formula = IsMeetingRefusal a (unary Not (tree_of formula))

-- the refusal of satisfaction
abbrev pub IsSatisfactionRefusal : Description → NumberedFormula → Refusal → Type 0
IsSatisfactionRefusal a formula = IsWordsRefusal a (unary Not (tree_of formula))

-- the refusal of words that satisfy a formula
abbrev pub IsSatisfyingWordsRefusal : Description → NumberedFormula → Refusal → Type 0
IsSatisfyingWordsRefusal a formula = IsWordsRefusal a (tree_of formula)
