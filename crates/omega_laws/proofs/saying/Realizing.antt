-- What `realize -f` answers of the text of a formula.
use Rattle.std.proofs.Common.{◌≡◌, ℕ, List, [], Option, None, Some, refl, sym, ap, subst}
use Rattle.std.specs.Prelude.{unwrap_or}
use Rattle.omega_text.specs.Omniscience.{LimitedPrincipleOfOmniscience}
use Rattle.omega_hoa_automaton.specs.Laws.{MeaningsAreAutomata}
use Rattle.omega_io.specs.declared.exit.Exit.{Exit}
use Rattle.omega_io.specs.declared.exit.Exit.TheVariants.{Done, No}
use Rattle.omega_lang_word_laws.specs.NamedWords.{WordsAreNamed}
use Rattle.omega_ltl_formula.specs.Building.{names_of}
use Rattle.omega_ltl_formula.specs.Formula.{FormulaTree}
use Rattle.omega_ltl_formula.specs.Table.{NumberedFormula, tree_of}
use Rattle.omega_ltl_text.specs.Laws.{FormulasOfTextsAreOne}
use Rattle.omega_synth_formula.specs.CounterLaws.{CounterStrategiesBeatFormulas, FormulaCounterJudgementsAreExact}
use Rattle.omega_synth_formula.specs.Laws.{ControllersRealizeFormulas, FormulaJudgementsAreExact}
use Rattle.omega_synth_formula.specs.declared.counter.FormulaCounterJudgement.TheVariants.{Beats}
use Rattle.omega_synth_formula.specs.declared.judgement.FormulaJudgement.TheVariants.{Controls}
use Rattle.omega_answers_synth.specs.FormulaWinner.{IsFormulaWinner, IsFormulaWinnerAnswer}
use Rattle.omega_answers_synth.specs.Outputs.{ArePartedBy, NameLists, names_without, output_numbers, outputs_by, outputs_in}
use Rattle.omega_laws.specs.RealizedFormulas.{FormulaWinnersAreExact, RealizeFormulaAnswersAreExact, SaysWhoWins, TellsWhoWinsFormula, outputs_of}
use Rattle.omega_laws.proofs.saying.Plays.{beaten, not_both, realized}
use Rattle.omega_laws.proofs.containing.Texts.{is_automaton}

-- the laws that it rests on
pub record Known : Type 0 where
  pub formulas : FormulasOfTextsAreOne
  pub automata : MeaningsAreAutomata
  pub named : WordsAreNamed
  pub exact : FormulaJudgementsAreExact
  pub counter_exact : FormulaCounterJudgementsAreExact
  pub realize : ControllersRealizeFormulas
  pub beat : CounterStrategiesBeatFormulas

-- the outputs of lists that part the names
pub outputs_are : (formula : NumberedFormula) → formula.table.names ≡ names_of (tree_of formula) → (outs ins : Option (List (List ℕ))) → ArePartedBy formula outs ins
    → outputs_by formula outs ins ≡ unwrap_or outs (names_without (unwrap_or ins []) (names_of (tree_of formula)))
outputs_are formula names (Some outs) ins parted = refl
outputs_are formula names None (Some ins) parted = ap (names_without ins) names
outputs_are formula names None None parted = absurd parted

done_is_no : Done ≡ No → ⊥
done_is_no e = cc

module _ (known : Known) (decided : LimitedPrincipleOfOmniscience) where
  -- the winner of a formula with these outputs
  tells : (formula : NumberedFormula) (outs : List (List ℕ)) (exit : Exit) (text : List ℕ) → IsFormulaWinner formula outs exit text
      → TellsWhoWinsFormula (tree_of formula) outs exit
  tells formula outs Done text won =
      let a = won.automaton in
      let found = realized known.named a (is_automaton known.automata text a won.read) outs known.realize (tree_of formula) won.judged.readable.all
      ((known.exact decided formula a (output_numbers a outs) Controls won.judged.right).0 refl) in
      record {
        realized = (λ done. found, λ some. refl);
        beaten = (λ no. absurd (done_is_no no), λ some. absurd (not_both (tree_of formula) outs some.0 found.0 some.1 found.1));
      }
  tells formula outs No text won =
      let a = won.automaton in
      let found = beaten known.named a (is_automaton known.automata text a won.read) outs known.beat (tree_of formula) won.judged.readable.readable.all
      ((known.counter_exact decided formula a outs Beats won.judged.right).0 refl) in
      record {
        realized = (λ done. absurd (done_is_no (sym done)), λ some. absurd (not_both (tree_of formula) outs found.0 some.0 found.1 some.1));
        beaten = (λ no. found, λ some. refl);
      }

  pub says : (text winner : List ℕ) (lists : NameLists) (exit : Exit) → IsFormulaWinnerAnswer text lists exit winner → SaysWhoWins text lists exit
  says text winner lists exit won =
      let asked : NumberedFormula = won.formula in
      let here : TellsWhoWinsFormula (tree_of asked) (outputs_of lists (tree_of asked)) exit =
      subst (λ (outs : List (List ℕ)). TellsWhoWinsFormula (tree_of asked) outs exit) (outputs_are asked won.read.names lists.outs lists.ins won.holds.parted)
      (tells asked (outputs_in asked lists) exit winner won.holds.holds) in
      record {
        formula_said = (tree_of asked, won.read.read.says);
        of_all = λ tree other.
            subst (λ (t : FormulaTree). TellsWhoWinsFormula t (outputs_of lists t) exit) (known.formulas text (tree_of asked) tree won.read.read.says other) here;
      }

pub winners_said : Known → FormulaWinnersAreExact
winners_said known decided text output lists exit won = says known decided text output lists exit won

pub realizing_said : Known → RealizeFormulaAnswersAreExact
realizing_said known decided text output lists exit answer = (says known decided text answer.winner lists exit answer.found, answer.line)
