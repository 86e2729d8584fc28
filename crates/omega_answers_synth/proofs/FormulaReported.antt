-- How refusals of the outputs of a formula are reported.
use Rattle.std.proofs.Common.{◌≡◌, inl, inr, List, ℕ, true, refl, sym, ap, subst}
use Rattle.omega_text.specs.declared.refusal.Refusal.{Refusal}
use Rattle.omega_text.specs.declared.refusal.Refusal.TheVariants.{Automaton, Circuit, Game, Io, Memory, Task, Text}
use Rattle.omega_text.specs.declared.refusal.task.TaskFault.{TaskFault}
use Rattle.omega_text.specs.declared.refusal.task.TaskFault.TheVariants.{Controllable}
use Rattle.omega_hoa_automaton.specs.Automaton.{Description}
use Rattle.omega_io.specs.Refused.{about}
use Rattle.omega_io.specs.declared.refused.Refused.{Refused}
use Rattle.omega_io.specs.declared.refused.Which.TheVariants.{Input}
use Rattle.omega_ltl_formula.specs.Table.{NumberedFormula}
use Rattle.omega_synth_check.specs.CounterLaws.{AreNumbersOfNames}
use Rattle.omega_synth_controllers.specs.Controllable.{HasControlled, IsControlled, IsMisstated, has_item}
use Rattle.omega_synth_formula.specs.Refusing.{IsFormulaJudgeRefusal}
use Rattle.omega_answers_synth.specs.FormulaController as controller
use Rattle.omega_answers_synth.specs.FormulaController.{RefusesFormulaController}
use Rattle.omega_answers_synth.specs.FormulaCounter as counter
use Rattle.omega_answers_synth.specs.FormulaCounter.{RefusesFormulaCounter}
use Rattle.omega_answers_synth.specs.Outputs.{AreOutputsRefused, item_misstated, item_unlike}

module _ (outs : List (List ℕ)) (a : Description) where
  -- the item is refused
  pub item_reported : (refusal : Refusal) → IsMisstated (HasControlled a) refusal → (reported : Refused) → reported ≡ about Input refusal → AreOutputsRefused outs a reported
  item_reported refusal refused reported is = subst (AreOutputsRefused outs a) (sym is) (go refusal refused)
    where
      go : (refusal : Refusal) → IsMisstated (HasControlled a) refusal → AreOutputsRefused outs a (about Input refusal)
      go (Task fault) h = inr (item_misstated h.1, ap (λ (f : TaskFault). about Input (Task f)) h.0)
      go Memory h = inl refl
      go (Text fault) h = absurd h
      go (Game fault) h = absurd h
      go (Circuit fault) h = absurd h
      go (Automaton fault) h = absurd h
      go Io h = absurd h

  -- it lists other propositions
  pub unlike_item_reported : (listed : List ℕ) → IsControlled a listed → has_item a ≡ true → ¬ AreNumbersOfNames a listed outs
      → (reported : Refused) → reported ≡ about Input (Task Controllable) → AreOutputsRefused outs a reported
  unlike_item_reported listed item has apart reported is = inr (item_unlike listed item has apart, is)

module _ (formula : NumberedFormula) (outs : List (List ℕ)) (a : Description) where
  -- the judge refuses for the same numbers
  pub judge_refused_for : (numbers also : List ℕ) → numbers ≡ also → (refusal : Refusal) → IsFormulaJudgeRefusal formula a numbers refusal
      → IsFormulaJudgeRefusal formula a also refusal
  judge_refused_for numbers also same refusal refused = subst (λ (ns : List ℕ). IsFormulaJudgeRefusal formula a ns refusal) same refused

  -- so a controller, or a counter-strategy, is refused
  pub controller_outputs_refused : (reported : Refused) → AreOutputsRefused outs a reported → RefusesFormulaController formula outs a reported
  controller_outputs_refused reported (inl memory) = inl memory
  controller_outputs_refused reported (inr (why, is)) = subst (RefusesFormulaController formula outs a) (sym is) (inr (controller.not_outputs why))

  pub counter_outputs_refused : (reported : Refused) → AreOutputsRefused outs a reported → RefusesFormulaCounter formula outs a reported
  counter_outputs_refused reported (inl memory) = inl memory
  counter_outputs_refused reported (inr (why, is)) = subst (RefusesFormulaCounter formula outs a) (sym is) (inr (counter.not_outputs why))
