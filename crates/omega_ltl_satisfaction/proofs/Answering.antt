-- What the common words of an automaton and of conjuncts say of the automaton and the formula.
use Rattle.std.proofs.Common.{List}
use Rattle.omega_hoa_automaton.specs.Automaton.{Description}
use Rattle.omega_lang_intersection.specs.declared.answer.Example.{Example}
use Rattle.omega_lang_intersection.specs.declared.answer.Intersection.{Intersection}
use Rattle.omega_lang_intersection.specs.declared.answer.Intersection.TheVariants.{Common, Empty}
use Rattle.omega_ltl_formula.specs.Formula.{FormulaTree, unary}
use Rattle.omega_ltl_formula.specs.Table.{NumberedFormula, tree_at, tree_of}
use Rattle.omega_ltl_formula.specs.declared.operators.UnaryOperator.TheVariants.{Not}
use Rattle.omega_ltl_formula.proofs.Decisions.{stable}
use Rattle.omega_text.specs.NamedWords.{NamedWord}
use Rattle.omega_ltl_satisfaction.specs.Satisfaction.{IsSatisfaction, IsUnsatisfying}
use Rattle.omega_ltl_satisfaction.specs.SatisfyingWords.{AreWordsOf, IsSatisfying}
use Rattle.omega_ltl_satisfaction.specs.declared.conjunct.Conjunct.{Conjunct}
use Rattle.omega_ltl_satisfaction.specs.declared.satisfaction.Satisfaction.TheVariants.{NotSatisfied}
use Rattle.omega_ltl_satisfaction.specs.declared.satisfaction.Satisfaction.TheVariants.{Satisfied}
use Rattle.omega_ltl_satisfaction.specs.private.Conjuncts.{AreConjuncts}
use Rattle.omega_ltl_satisfaction.specs.private.Meeting.{IsMeeting, IsMet}
use Rattle.omega_ltl_satisfaction.proofs.Holding.{all_hold, decided}

-- a word satisfies a formula exactly if it satisfies each of its conjuncts
module _ (a : Description) (formula : NumberedFormula) (whole : FormulaTree) (conjuncts : List Conjunct) (are : AreConjuncts formula whole conjuncts) where
  satisfying : (word : NamedWord) → IsMet a formula.table conjuncts word → IsSatisfying a whole word
  satisfying word met = record { accepted = met.accepted; satisfied = are.whole_is word met.met tt }

  pub words_met : (answer : Intersection) → IsMeeting a formula conjuncts answer → AreWordsOf a formula whole answer
  words_met Empty none = λ omniscience word accepted satisfied.
      none omniscience word (record {
        accepted = accepted;
        met = all_hold omniscience word (tree_at formula.table) whole conjuncts are.found_are.each satisfied;
      })
  words_met (Common example) met = record {
    word = met.word;
    wanted = satisfying met.word met.wanted;
    fits = met.fits;
    all_wanted = λ names word fits. satisfying word (met.all_wanted names word fits);
    lasso = met.lasso;
    goes_along = met.goes_along;
  }

-- a word satisfies the negation of a formula exactly if it does not satisfy the formula
module _ (a : Description) (formula : NumberedFormula) where
  pub none_unsatisfying : AreWordsOf a formula (unary Not (tree_of formula)) Empty → IsSatisfaction a formula Satisfied
  none_unsatisfying none omniscience word accepted =
      stable (decided omniscience word (tree_of formula)) (none omniscience word accepted)

  unsatisfying : (word : NamedWord) → IsSatisfying a (unary Not (tree_of formula)) word → IsUnsatisfying a (tree_of formula) word
  unsatisfying word is = record { accepted = is.accepted; not_satisfied = is.satisfied }

  pub some_unsatisfying : (example : Example) → AreWordsOf a formula (unary Not (tree_of formula)) (Common example) → IsSatisfaction a formula (NotSatisfied example)
  some_unsatisfying example is = record {
    word = is.word;
    wanted = unsatisfying is.word is.wanted;
    fits = is.fits;
    all_wanted = λ names word fits. unsatisfying word (is.all_wanted names word fits);
    lasso = is.lasso;
    goes_along = is.goes_along;
  }
