-- Each answer to what is written as a controller is `yes`.
use Rattle.std.proofs.Common.{◌≡◌, ℕ, Bool, List, [], ◌∷◌, ◌++◌, map, refl, sym, ap, subst, ◌∙◌}
use Rattle.omega_hoa_syntax.specs.declared.header_value.HeaderValue.TheVariants as value
use Rattle.omega_hoa_automaton.specs.Automaton.{Description, IsAutomaton}
use Rattle.omega_hoa_automaton.specs.Laws.{MeaningsAreAutomata}
use Rattle.omega_synth_controllers.specs.Controllable.{IsControlled}
use Rattle.omega_io.specs.Answer.{IsYes, answer_text, exit_of}
use Rattle.omega_answers_synth.specs.Laws.{WrittenControllersAreParts}
use Rattle.omega_answers_synth.specs.Reason.{judgement_answer}
use Rattle.omega_answers_synth.specs.Verify.{IsControllerAnswer}
use Rattle.omega_answers_synth.proofs.ControllerStated.{numbers_one}
use Rattle.omega_synth_check.specs.Judging.{IsJudgement}
use Rattle.omega_synth_check.specs.Laws.{KeptPartsAreJudgedRight}
use Rattle.omega_synth_check.specs.declared.judgement.Judgement.{Judgement}
use Rattle.omega_synth_check.specs.declared.judgement.Judgement.TheVariants.{Controls}
use Rattle.omega_hoa.specs.Laws.{AutomataAreOne}
use Rattle.omega_io.specs.declared.exit.Exit.{Exit}
use Rattle.omega_text.specs.Omniscience.{LimitedPrincipleOfOmniscience}
use Rattle.omega_laws.specs.ControllerTexts.{ControllersAreReadBack}
use Rattle.omega_laws.specs.WrittenControllers.{IsWrittenController, WrittenControllersAreJudgedRight}
use Rattle.omega_laws.proofs.RealizedWritten as written

module _ (back : ControllersAreReadBack) (one : AutomataAreOne) (automata : MeaningsAreAutomata) (parts : WrittenControllersAreParts) (right : KeptPartsAreJudgedRight)
    (specification controller : List ℕ) (is : IsWrittenController specification controller) where
  abbrev given : Description
  given = written.given back specification controller is

  abbrev part : Description
  part = written.part back specification controller is

  abbrev controlled : List ℕ
  controlled = written.controlled back specification controller is

  abbrev kept : List ℕ
  kept = written.kept back specification controller is

  -- the judgement on it
  controls : LimitedPrincipleOfOmniscience → (judgement : Judgement) → IsJudgement given part controlled judgement → judgement ≡ Controls
  controls decided judgement judged =
      let automaton : IsAutomaton given = automata is.answer.read.value.raw given is.answer.read.value.means in
      right decided given part controlled kept judgement (written.controls back specification controller is)
      (parts given controlled kept (written.reached back specification controller is) automaton (written.tells back specification controller is)) judged

  -- the answer to it
  answered : LimitedPrincipleOfOmniscience → (output : List ℕ) (explain : Bool) (exit : Exit) → IsControllerAnswer specification controller explain exit output
      → IsYes exit output
  answered decided output explain exit answer =
      let verdict = answer.holds in
      let same : answer.file ≡ given = one specification answer.file given answer.file_read is.answer.read in
      let also : answer.input ≡ part = one controller answer.input part answer.input_read (written.part_read back specification controller is) in
      let own : IsControlled part verdict.controlled = subst (λ (c : Description). IsControlled c verdict.controlled) also verdict.parted.own in
      let listed : map value.Number verdict.controlled ≡ map value.Number controlled = sym own.stated.listed ∙ append_none (map value.Number controlled) in
      let numbers : verdict.controlled ≡ controlled = numbers_one verdict.controlled controlled listed in
      let judged : IsJudgement given part controlled verdict.judgement =
      subst (λ (s : Description). IsJudgement s part controlled verdict.judgement) same
      (subst (λ (c : Description). IsJudgement answer.file c controlled verdict.judgement) also
      (subst (λ (n : List ℕ). IsJudgement answer.file answer.input n verdict.judgement) numbers verdict.right)) in
      let is_controls : verdict.judgement ≡ Controls = controls decided verdict.judgement judged in (
        verdict.reply.0 ∙ ap (λ (j : Judgement). exit_of (judgement_answer explain answer.input verdict.controlled j)) is_controls,
        verdict.reply.1 ∙ ap (λ (j : Judgement). answer_text (judgement_answer explain answer.input verdict.controlled j)) is_controls,
      )
    where
      append_none : {X : Type 0} (xs : List X) → xs ++ [] ≡ xs
      append_none [] = refl
      append_none (x ∷ xs) = ap (λ rest. x ∷ rest) (append_none xs)

pub judged_right : ControllersAreReadBack → AutomataAreOne → MeaningsAreAutomata → WrittenControllersAreParts → KeptPartsAreJudgedRight → WrittenControllersAreJudgedRight
judged_right back one automata parts right specification controller is = (
  (written.part back specification controller is, written.part_read back specification controller is),
  answered back one automata parts right specification controller is,
)
