-- What `verify -f` answers of the text of a formula and of that of an automaton.
use Rattle.std.proofs.Common.{◌≡◌, ◌↔◌, ℕ, Bool, List, refl, sym, ap, subst, ◌∙◌}
use Rattle.omega_hoa_automaton.specs.Automaton.{Description}
use Rattle.omega_hoa.specs.Alone.{IsAutomatonText}
use Rattle.omega_io.specs.Answer.{IsYes, answer_text, exit_of}
use Rattle.omega_io.specs.declared.exit.Exit.{Exit}
use Rattle.omega_io.specs.declared.exit.Exit.TheVariants.{Done, No}
use Rattle.omega_ltl_formula.specs.Formula.{FormulaTree}
use Rattle.omega_ltl_formula.specs.Table.{NumberedFormula, tree_of}
use Rattle.omega_ltl_text.specs.Laws.{FormulasOfTextsAreOne}
use Rattle.omega_synth_formula.specs.CounterJudging.{IsCounterStrategyForFormula}
use Rattle.omega_synth_formula.specs.CounterLaws.{FormulaCounterJudgementsAreExact}
use Rattle.omega_synth_formula.specs.Laws.{FormulaJudgementsAreExact}
use Rattle.omega_synth_formula.specs.declared.counter.FormulaCounterJudgement.{FormulaCounterJudgement}
use Rattle.omega_synth_formula.specs.declared.counter.FormulaCounterJudgement.TheVariants as counter
use Rattle.omega_synth_formula.specs.declared.judgement.FormulaJudgement.{FormulaJudgement}
use Rattle.omega_synth_formula.specs.declared.judgement.FormulaJudgement.TheVariants.{Controls, NoStart, NotSatisfied, Unanswered}
use Rattle.omega_answers_formula.specs.Formula.{IsFormulaOfText}
use Rattle.omega_answers_synth.specs.FormulaController.{formula_judgement_answer}
use Rattle.omega_answers_synth.specs.FormulaCounter.{formula_counter_answer}
use Rattle.omega_answers_synth.specs.Outputs.{AreParted, NameLists, output_numbers, outputs_in}
use Rattle.omega_laws.specs.Describes.{Describes}
use Rattle.omega_laws.specs.JudgedTexts.{ControlsOutputs, FormulaControllersAreJudged, FormulaCounterStrategiesAreJudged, SaysOfFormula}
use Rattle.omega_laws.specs.RealizedFormulas.{outputs_of}
use Rattle.omega_laws.proofs.saying.Alike.{PartsAreOne, same_controller, same_counter_strategy, turned}
use Rattle.omega_laws.proofs.saying.Described.{HaveSameParts, described}
use Rattle.omega_laws.proofs.saying.Realizing.{outputs_are}

no_done : No ≡ Done → ⊥
no_done e = cc

-- the program is done only where the judgement is that it controls
done_controls : (explain : Bool) (controller : Description) (outs : List (List ℕ)) (judgement : FormulaJudgement)
    → exit_of (formula_judgement_answer explain controller outs judgement) ≡ Done → judgement ≡ Controls
done_controls explain controller outs Controls done = refl
done_controls explain controller outs NoStart done = absurd (no_done done)
done_controls explain controller outs (Unanswered lack) done = absurd (no_done done)
done_controls explain controller outs (NotSatisfied example) done = absurd (no_done done)

-- or that it beats the formula
done_beats : (explain : Bool) (judgement : FormulaCounterJudgement) → exit_of (formula_counter_answer explain judgement) ≡ Done → judgement ≡ counter.Beats
done_beats explain counter.Beats done = refl
done_beats explain counter.NoStart done = absurd (no_done done)
done_beats explain (counter.NoLetter letterless) done = absurd (no_done done)
done_beats explain (counter.Satisfying example) done = absurd (no_done done)

-- what is exact of the formula and the automaton that were read is exact of each that the texts say
module _ (formulas_one : FormulasOfTextsAreOne) (parts : PartsAreOne) (IsFor : FormulaTree → Description → List (List ℕ) → Type 0)
    (moved : (a b : Description) → HaveSameParts a b → (formula : FormulaTree) (outs : List (List ℕ)) → IsFor formula a outs → IsFor formula b outs)
    (file input : List ℕ) (lists : NameLists) (exit : Exit) (output : List ℕ) (formula : NumberedFormula) (read : IsFormulaOfText file formula)
    (parted : AreParted formula lists) (a : Description) (own : IsAutomatonText input a) where
  said_of_formula : IsYes exit output ↔ IsFor (tree_of formula) a (outputs_in formula lists) → SaysOfFormula IsFor file input lists exit output
  said_of_formula exact =
      let here : Describes input a = described input a own in
      let outs : outputs_in formula lists ≡ outputs_of lists (tree_of formula) = outputs_are formula read.names lists.outs lists.ins parted in
      let known : IsYes exit output ↔ IsFor (tree_of formula) a (outputs_of lists (tree_of formula)) =
      subst (λ (o : List (List ℕ)). IsYes exit output ↔ IsFor (tree_of formula) a o) outs exact in
      record {
        formula_said = (tree_of formula, read.read.says);
        described = (a, here);
        of_all = λ tree b other there.
            (let same : HaveSameParts a b = parts input a b here there in
            subst (λ (t : FormulaTree). IsYes exit output ↔ IsFor t b (outputs_of lists t)) (formulas_one file (tree_of formula) tree read.read.says other) (
              λ yes. moved a b same (tree_of formula) (outputs_of lists (tree_of formula)) (known.0 yes),
              λ for. known.1 (moved b a (turned a b same) (tree_of formula) (outputs_of lists (tree_of formula)) for),
            ));
      }

pub controllers_judged : FormulasOfTextsAreOne → PartsAreOne → FormulaJudgementsAreExact → FormulaControllersAreJudged
controllers_judged formulas_one parts exact decided file input output lists explain exit answer =
    let verdict = answer.holds.holds in
    let a : Description = answer.input in
    let outs : List (List ℕ) = outputs_in answer.file lists in
    let judged = exact decided answer.file a (output_numbers a outs) verdict.judgement verdict.right in
    said_of_formula formulas_one parts ControlsOutputs same_controller file input lists exit output answer.file answer.file_read answer.holds.parted a answer.input_read (
      λ yes. judged.0 (done_controls explain a outs verdict.judgement (sym verdict.reply.0 ∙ yes.0)),
      λ is.
          (let controls : verdict.judgement ≡ Controls = judged.1 is in (
            verdict.reply.0 ∙ ap (λ (j : FormulaJudgement). exit_of (formula_judgement_answer explain a outs j)) controls,
            verdict.reply.1 ∙ ap (λ (j : FormulaJudgement). answer_text (formula_judgement_answer explain a outs j)) controls,
          )),
    )

pub counter_strategies_judged : FormulasOfTextsAreOne → PartsAreOne → FormulaCounterJudgementsAreExact → FormulaCounterStrategiesAreJudged
counter_strategies_judged formulas_one parts exact decided file input output lists explain exit answer =
    let verdict = answer.holds.holds in
    let a : Description = answer.input in
    let outs : List (List ℕ) = outputs_in answer.file lists in
    let judged = exact decided answer.file a outs verdict.judgement verdict.right in
    said_of_formula formulas_one parts IsCounterStrategyForFormula same_counter_strategy file input lists exit output answer.file answer.file_read answer.holds.parted a answer.input_read (
      λ yes. judged.0 (done_beats explain verdict.judgement (sym verdict.reply.0 ∙ yes.0)),
      λ is.
          (let beats : verdict.judgement ≡ counter.Beats = judged.1 is in (
            verdict.reply.0 ∙ ap (λ (j : FormulaCounterJudgement). exit_of (formula_counter_answer explain j)) beats,
            verdict.reply.1 ∙ ap (λ (j : FormulaCounterJudgement). answer_text (formula_counter_answer explain j)) beats,
          )),
    )
