-- The answers for one formula and the same names are one, and what is written of a winner is judged to be one.
use Rattle.std.proofs.Common.{◌≡◌, ◌∙◌, ℕ, List, Option, None, Some, refl, sym, ap, subst}
use Rattle.omega_text.specs.Omniscience.{LimitedPrincipleOfOmniscience}
use Rattle.omega_hoa.specs.Laws.{AutomataAreOne}
use Rattle.omega_hoa_automaton.specs.Automaton.{Description}
use Rattle.omega_hoa_automaton.specs.Laws.{MeaningsAreAutomata}
use Rattle.omega_io.specs.Answer.{IsReply}
use Rattle.omega_io.specs.declared.exit.Exit.{Exit}
use Rattle.omega_io.specs.declared.exit.Exit.TheVariants.{Done, No}
use Rattle.omega_answers_formula.specs.Formula.{IsFormulaOfText}
use Rattle.omega_ltl_formula.specs.Building.{names_of}
use Rattle.omega_ltl_formula.specs.Formula.{FormulaTree}
use Rattle.omega_ltl_formula.specs.Table.{NumberedFormula, tree_of}
use Rattle.omega_ltl_text.specs.Laws.{FormulasOfTextsAreOne}
use Rattle.omega_synth_check.specs.CounterLaws.{AreNumbersOfNames}
use Rattle.omega_synth_check.proofs.SystemNames.{system_has, system_named}
use Rattle.omega_synth_formula.specs.CounterJudging.{IsCounterStrategyForFormula}
use Rattle.omega_synth_formula.specs.CounterLaws.{FormulaControllersExcludeCounterStrategies, FormulaCounterJudgementsAreExact}
use Rattle.omega_synth_formula.specs.Judging.{IsControllerForFormula}
use Rattle.omega_synth_formula.specs.Laws.{FormulaJudgementsAreExact}
use Rattle.omega_synth_formula.specs.declared.counter.FormulaCounterJudgement.{FormulaCounterJudgement}
use Rattle.omega_synth_formula.specs.declared.counter.FormulaCounterJudgement.TheVariants.{Beats}
use Rattle.omega_synth_formula.specs.declared.judgement.FormulaJudgement.{FormulaJudgement}
use Rattle.omega_synth_formula.specs.declared.judgement.FormulaJudgement.TheVariants.{Controls}
use Rattle.omega_answers_synth.specs.FormulaController.{formula_judgement_answer}
use Rattle.omega_answers_synth.specs.FormulaCounter.{formula_counter_answer}
use Rattle.omega_answers_synth.specs.FormulaLaws.{FormulaAnswersAreOne, WrittenControllersAreJudged, WrittenCounterStrategiesAreJudged}
use Rattle.omega_answers_synth.specs.FormulaWinner.{IsFormulaWinnerAnswer, verdict_line}
use Rattle.omega_answers_synth.specs.Outputs.{NameLists, names_without, output_numbers, outputs_by, outputs_in}

-- the numbers of the outputs are those of their names
numbers_of_names : (a : Description) (outs : List (List ℕ)) → AreNumbersOfNames a (output_numbers a outs) outs
numbers_of_names a outs p low = (λ has. system_named a.propositions outs p has, λ has. system_has a.propositions outs p low has)

-- formulas with the same names have the same outputs
outputs_same : (one other : NumberedFormula) → one.table.names ≡ other.table.names → (outs ins : Option (List (List ℕ))) → outputs_by one outs ins ≡ outputs_by other outs ins
outputs_same one other same (Some outs) ins = refl
outputs_same one other same None (Some ins) = ap (names_without ins) same
outputs_same one other same None None = refl

-- two formulas of one text
module _ (trees : FormulasOfTextsAreOne) (text : List ℕ) (one other : NumberedFormula) (read : IsFormulaOfText text one) (also : IsFormulaOfText text other) where
  same_tree : tree_of one ≡ tree_of other
  same_tree = trees text (tree_of one) (tree_of other) read.read.says also.read.says

  same_outputs : (lists : NameLists) → outputs_in one lists ≡ outputs_in other lists
  same_outputs lists = outputs_same one other (read.names ∙ ap names_of same_tree ∙ sym also.names) lists.outs lists.ins

  -- a controller for the one is a controller for the other
  other_controller : (lists : NameLists) (a b : Description) → a ≡ b → IsControllerForFormula (tree_of one) a (output_numbers a (outputs_in one lists))
      → IsControllerForFormula (tree_of other) b (output_numbers b (outputs_in other lists))
  other_controller lists a b same for =
      subst (λ (tree : FormulaTree). IsControllerForFormula tree b (output_numbers b (outputs_in other lists))) same_tree
      (subst (λ (x : Description). IsControllerForFormula (tree_of one) x (output_numbers x (outputs_in other lists))) same
      (subst (λ (outs : List (List ℕ)). IsControllerForFormula (tree_of one) a (output_numbers a outs)) (same_outputs lists) for))

  -- and a counter-strategy
  other_counter_strategy : (lists : NameLists) (a b : Description) → a ≡ b → IsCounterStrategyForFormula (tree_of one) a (outputs_in one lists)
      → IsCounterStrategyForFormula (tree_of other) b (outputs_in other lists)
  other_counter_strategy lists a b same for =
      subst (λ (tree : FormulaTree). IsCounterStrategyForFormula tree b (outputs_in other lists)) same_tree
      (subst (λ (x : Description). IsCounterStrategyForFormula (tree_of one) x (outputs_in other lists)) same
      (subst (λ (outs : List (List ℕ)). IsCounterStrategyForFormula (tree_of one) a outs) (same_outputs lists) for))

pub written_controllers_are_judged : FormulasOfTextsAreOne → AutomataAreOne → FormulaJudgementsAreExact → WrittenControllersAreJudged
written_controllers_are_judged trees one exact decided text winner output lists explain exit written answer =
    let won = written.holds.holds in
    let verdict = answer.holds.holds in
    let a : Description = won.automaton in
    let b : Description = answer.input in
    let for : IsControllerForFormula (tree_of written.formula) a (output_numbers a (outputs_in written.formula lists)) =
    (exact decided written.formula a (output_numbers a (outputs_in written.formula lists)) Controls won.judged.right).0 refl in
    let also : IsControllerForFormula (tree_of answer.file) b (output_numbers b (outputs_in answer.file lists)) =
    other_controller trees text written.formula answer.file written.read answer.file_read lists a b (one winner a b won.read answer.input_read) for in
    let controls : verdict.judgement ≡ Controls =
    (exact decided answer.file b (output_numbers b (outputs_in answer.file lists)) verdict.judgement verdict.right).1 also in
    subst (λ (judgement : FormulaJudgement). IsReply (formula_judgement_answer explain b (outputs_in answer.file lists) judgement) exit output) controls verdict.reply

pub written_counter_strategies_are_judged : FormulasOfTextsAreOne → AutomataAreOne → FormulaCounterJudgementsAreExact → WrittenCounterStrategiesAreJudged
written_counter_strategies_are_judged trees one exact decided text winner output lists explain exit written answer =
    let won = written.holds.holds in
    let verdict = answer.holds.holds in
    let a : Description = won.automaton in
    let b : Description = answer.input in
    let for : IsCounterStrategyForFormula (tree_of written.formula) a (outputs_in written.formula lists) =
    (exact decided written.formula a (outputs_in written.formula lists) Beats won.judged.right).0 refl in
    let also : IsCounterStrategyForFormula (tree_of answer.file) b (outputs_in answer.file lists) =
    other_counter_strategy trees text written.formula answer.file written.read answer.file_read lists a b (one winner a b won.read answer.input_read) for in
    let beats : verdict.judgement ≡ Beats = (exact decided answer.file b (outputs_in answer.file lists) verdict.judgement verdict.right).1 also in
    subst (λ (judgement : FormulaCounterJudgement). IsReply (formula_counter_answer explain judgement) exit output) beats verdict.reply

-- no text is that of a controller where another is that of a counter-strategy
no_both : FormulasOfTextsAreOne → MeaningsAreAutomata → FormulaJudgementsAreExact → FormulaCounterJudgementsAreExact → FormulaControllersExcludeCounterStrategies
    → LimitedPrincipleOfOmniscience → (text one other : List ℕ) (lists : NameLists) → IsFormulaWinnerAnswer text lists Done one → IsFormulaWinnerAnswer text lists No other → ⊥
no_both trees means exact counter_exact excludes decided text one other lists first second =
    let controlling = first.holds.holds in
    let beating = second.holds.holds in
    let a : Description = controlling.automaton in
    let b : Description = beating.automaton in
    let for : IsControllerForFormula (tree_of first.formula) a (output_numbers a (outputs_in first.formula lists)) =
    (exact decided first.formula a (output_numbers a (outputs_in first.formula lists)) Controls controlling.judged.right).0 refl in
    let also : IsControllerForFormula (tree_of second.formula) a (output_numbers a (outputs_in second.formula lists)) =
    other_controller trees text first.formula second.formula first.read second.read lists a a refl for in
    let counter : IsCounterStrategyForFormula (tree_of second.formula) b (outputs_in second.formula lists) =
    (counter_exact decided second.formula b (outputs_in second.formula lists) Beats beating.judged.right).0 refl in
    excludes (tree_of second.formula) a b (output_numbers a (outputs_in second.formula lists)) (outputs_in second.formula lists)
    (means controlling.read.value.raw a controlling.read.value.means) controlling.judged.readable.all beating.judged.readable.readable.all
    (numbers_of_names a (outputs_in second.formula lists)) also counter

pub formula_answers_are_one : FormulasOfTextsAreOne → MeaningsAreAutomata → FormulaJudgementsAreExact → FormulaCounterJudgementsAreExact
    → FormulaControllersExcludeCounterStrategies → FormulaAnswersAreOne
formula_answers_are_one trees means exact counter_exact excludes decided text one other lists exit also first second =
    let same : exit ≡ also = go exit also first.found second.found in
    (same, first.line ∙ ap verdict_line same ∙ sym second.line)
  where
    go : (exit also : Exit) → IsFormulaWinnerAnswer text lists exit first.winner → IsFormulaWinnerAnswer text lists also second.winner → exit ≡ also
    go Done Done won also_won = refl
    go Done No won also_won = absurd (no_both trees means exact counter_exact excludes decided text first.winner second.winner lists won also_won)
    go No Done won also_won = absurd (no_both trees means exact counter_exact excludes decided text second.winner first.winner lists also_won won)
    go No No won also_won = refl
