-- How refusals of two automata are reported, and which text they are about.
use Rattle.std.proofs.Common.{◌≡◌, inl, inr, List, ℕ, true, Some, refl, sym, ap, subst}
use Rattle.std.specs.Prelude.{Result, Ok, Err, IfErr, IsErrAnd}
use Rattle.omega_text.specs.declared.refusal.Refusal.{Refusal}
use Rattle.omega_text.specs.declared.refusal.Refusal.TheVariants.{Automaton, Circuit, Game, Io, Memory, Task, Text}
use Rattle.omega_text.specs.declared.refusal.task.TaskFault.{TaskFault}
use Rattle.omega_text.specs.declared.refusal.task.TaskFault.TheVariants.{Controllable}
use Rattle.omega_hoa_automaton.specs.Automaton.{Description}
use Rattle.omega_synth_controllers.specs.Controllable.{HasControlled, IsControlled, IsMisstated, has_item}
use Rattle.omega_synth_check.specs.Refusing.{IsJudgeRefusal}
use Rattle.omega_io.specs.Refused.{about}
use Rattle.omega_io.specs.declared.refused.Refused.{Refused}
use Rattle.omega_io.specs.declared.refused.Which.{Which}
use Rattle.omega_io.specs.declared.refused.Which.TheVariants.{File, Input}
use Rattle.omega_answers_synth.specs.Parting.{AreAlike, AreControlledAlike, IsPartingRefused, IsUnparted, misstated, other_misstated, unlike}
use Rattle.omega_answers_synth.specs.Verify.{IsPairRefusal, RefusesController, controller_misstated, not_judged, parted_unlike, specification_misstated}
use Rattle.omega_answers_synth.specs.declared.parting.PartedNumbers.{PartedNumbers}
use Rattle.omega_answers_synth.specs.private.Alike.{ArePartedAlike}
use Rattle.omega_answers_synth.specs.private.Reported.{judge_reported}

-- an error that names its text is passed on
pub refused_on : {T : Type 0} (result : Result T Refused) (P : Refused → Type 0) (refused : Refused) → IsErrAnd result (λ e. e ≡ refused) → P refused → IfErr result P
refused_on (Ok x) P refused is h = absurd is
refused_on (Err e) P refused is h = subst P (sym is) h

module _ (specification controller : Description) where
  -- the item of the specification, or that of the other, is refused
  pub specification_reported : (refusal : Refusal) → IsMisstated (HasControlled specification) refusal → (reported : Refused) → reported ≡ about File refusal
      → IsPartingRefused specification controller reported
  specification_reported refusal refused reported is = subst (IsPartingRefused specification controller) (sym is) (go refusal refused)
    where
      go : (refusal : Refusal) → IsMisstated (HasControlled specification) refusal → IsPartingRefused specification controller (about File refusal)
      go (Task fault) h = inr (File, misstated h.1, ap (λ (f : TaskFault). about File (Task f)) h.0)
      go Memory h = inl refl
      go (Text fault) h = absurd h
      go (Game fault) h = absurd h
      go (Circuit fault) h = absurd h
      go (Automaton fault) h = absurd h
      go Io h = absurd h

  pub controller_reported : HasControlled specification → (refusal : Refusal) → IsMisstated (HasControlled controller) refusal → (reported : Refused)
      → reported ≡ about Input refusal → IsPartingRefused specification controller reported
  controller_reported stated refusal refused reported is = subst (IsPartingRefused specification controller) (sym is) (go refusal refused)
    where
      go : (refusal : Refusal) → IsMisstated (HasControlled controller) refusal → IsPartingRefused specification controller (about Input refusal)
      go (Task fault) h = inr (Input, other_misstated stated h.1, ap (λ (f : TaskFault). about Input (Task f)) h.0)
      go Memory h = inl refl
      go (Text fault) h = absurd h
      go (Game fault) h = absurd h
      go (Circuit fault) h = absurd h
      go (Automaton fault) h = absurd h
      go Io h = absurd h

  -- the two items differ
  pub unlike_reported : (stated controlled : List ℕ) (names own_names : List (List ℕ)) (one other : List ℕ)
      → IsControlled specification stated → IsControlled controller controlled
      → names ≡ specification.propositions → own_names ≡ controller.propositions → one ≡ stated → other ≡ controlled
      → has_item specification ≡ true → ¬ AreAlike names own_names one other
      → (reported : Refused) → reported ≡ about Input (Task Controllable) → IsPartingRefused specification controller reported
  unlike_reported stated controlled names own_names one other is_stated is_controlled same own_same one_is other_is item differ reported is =
      let apart : ¬ AreAlike specification.propositions controller.propositions stated controlled =
      subst (λ (ns : List (List ℕ)). ¬ AreAlike ns controller.propositions stated controlled) same
      (subst (λ (ns : List (List ℕ)). ¬ AreAlike names ns stated controlled) own_same
      (subst (λ (ns : List ℕ). ¬ AreAlike names own_names ns controlled) one_is
      (subst (λ (ns : List ℕ). ¬ AreAlike names own_names one ns) other_is differ))) in
      inr (Input, unlike stated controlled is_stated is_controlled item apart, is)

  -- so the judge of controllers is
  pub parting_refused : (reported : Refused) → IsPartingRefused specification controller reported → RefusesController specification controller reported
  parting_refused reported (inl memory) = inl memory
  parting_refused reported (inr (text, why, is)) = subst (RefusesController specification controller) (sym is) (inr (go text why))
    where
      go : (text : Which) → IsUnparted specification controller text → IsPairRefusal specification controller (Some text) (Task Controllable)
      go File (misstated not) = specification_misstated not
      go Input (other_misstated has not) = controller_misstated has not
      go Input (unlike stated controlled is_stated is_controlled item apart) = parted_unlike stated controlled is_stated is_controlled item apart

  -- what the items say, for a controller
  pub controlled_alike : (parted : PartedNumbers) → ArePartedAlike specification controller parted → AreControlledAlike specification controller parted.controlled
  controlled_alike parted are = record { own = are.own; stated = parted.stated; other = are.specified; alike = are.alike }

  -- the judge refuses
  pub judge_refused : (controlled : List ℕ) → AreControlledAlike specification controller controlled → (refusal : Refusal) → IsJudgeRefusal specification controller controlled refusal
      → (reported : Refused) → reported ≡ judge_reported controller refusal → RefusesController specification controller reported
  judge_refused controlled parted refusal refused reported is =
      subst (RefusesController specification controller) (sym is) (inr (not_judged controlled refusal parted refused))
