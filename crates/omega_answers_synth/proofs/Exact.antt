-- `yes` is written exactly for a controller, and exactly for a counter-strategy.
use Rattle.std.proofs.Common.{◌≡◌, Bool, List, ℕ, refl, sym, ap, subst, ◌∙◌}
use Rattle.omega_hoa_automaton.specs.Automaton.{Description}
use Rattle.omega_synth_controllers.specs.Controllable.{IsControlled}
use Rattle.omega_synth_check.specs.CounterJudging.{IsCounterJudgement}
use Rattle.omega_synth_check.specs.CounterLaws.{CounterJudgementsAreExact}
use Rattle.omega_synth_check.specs.Judging.{IsJudgement}
use Rattle.omega_synth_check.specs.Laws.{JudgementsAreExact}
use Rattle.omega_synth_check.specs.declared.counter_judgement.CounterJudgement.{CounterJudgement}
use Rattle.omega_synth_check.specs.declared.counter_judgement.CounterJudgement.TheVariants as judged
use Rattle.omega_synth_check.specs.declared.judgement.Judgement.{Judgement}
use Rattle.omega_synth_check.specs.declared.judgement.Judgement.TheVariants.{Controls, NoStart, NotAccepted, Unanswered}
use Rattle.omega_hoa.specs.Laws.{AutomataAreOne}
use Rattle.omega_io.specs.declared.exit.Exit.TheVariants.{Done, No}
use Rattle.omega_io.specs.Answer.{answer_text, exit_of}
use Rattle.omega_answers_synth.specs.Counter.{counter_answer}
use Rattle.omega_answers_synth.specs.Laws.{ControllerAnswersAreExact, CounterAnswersAreExact}
use Rattle.omega_answers_synth.specs.Parting.{AreSystemNames}
use Rattle.omega_answers_synth.specs.Reason.{judgement_answer}
use Rattle.omega_answers_synth.proofs.ControllerStated.{controlled_one}
use Rattle.omega_answers_synth.proofs.Named.{names_one}

no_done : No ≡ Done → ⊥
no_done e = cc

-- the program is done only where the judgement is that it controls
pub done_controls : (explain : Bool) (controller : Description) (controlled : List ℕ) (judgement : Judgement)
    → exit_of (judgement_answer explain controller controlled judgement) ≡ Done → judgement ≡ Controls
done_controls explain controller controlled Controls done = refl
done_controls explain controller controlled NoStart done = absurd (no_done done)
done_controls explain controller controlled (Unanswered lack) done = absurd (no_done done)
done_controls explain controller controlled (NotAccepted example) done = absurd (no_done done)

pub answers_are_exact : AutomataAreOne → JudgementsAreExact → ControllerAnswersAreExact
answers_are_exact one exact decided file input output explain exit specification controller controlled answer file_read input_read stated =
    let verdict = answer.holds in
    let same : answer.file ≡ specification = one file answer.file specification answer.file_read file_read in
    let also : answer.input ≡ controller = one input answer.input controller answer.input_read input_read in
    let numbers : verdict.controlled ≡ controlled =
    controlled_one controller verdict.controlled controlled (subst (λ (c : Description). IsControlled c verdict.controlled) also verdict.parted.own) stated in
    let right : IsJudgement specification controller controlled verdict.judgement =
    subst (λ (s : Description). IsJudgement s controller controlled verdict.judgement) same
    (subst (λ (c : Description). IsJudgement answer.file c controlled verdict.judgement) also
    (subst (λ (n : List ℕ). IsJudgement answer.file answer.input n verdict.judgement) numbers verdict.right)) in
    let judged = exact decided specification controller controlled verdict.judgement right in (
      λ yes. judged.0 (done_controls explain answer.input verdict.controlled verdict.judgement (sym verdict.reply.0 ∙ yes.0)),
      λ is.
          (let controls : verdict.judgement ≡ Controls = judged.1 is in (
            verdict.reply.0 ∙ ap (λ (j : Judgement). exit_of (judgement_answer explain answer.input verdict.controlled j)) controls,
            verdict.reply.1 ∙ ap (λ (j : Judgement). answer_text (judgement_answer explain answer.input verdict.controlled j)) controls,
          )),
    )

-- it is done of a counter-strategy only where the judgement is that it beats the specification
pub done_beats : (explain : Bool) (judgement : CounterJudgement) → exit_of (counter_answer explain judgement) ≡ Done → judgement ≡ judged.Beats
done_beats explain judged.Beats done = refl
done_beats explain judged.NoStart done = absurd (no_done done)
done_beats explain (judged.NoLetter pair) done = absurd (no_done done)
done_beats explain (judged.Common example) done = absurd (no_done done)

pub counter_answers_are_exact : AutomataAreOne → CounterJudgementsAreExact → CounterAnswersAreExact
counter_answers_are_exact one exact file input output explain exit specification strategy names answer file_read input_read system =
    let verdict = answer.holds in
    let same : answer.file ≡ specification = one file answer.file specification answer.file_read file_read in
    let also : answer.input ≡ strategy = one input answer.input strategy answer.input_read input_read in
    let own : AreSystemNames specification strategy verdict.names =
    subst (λ (s : Description). AreSystemNames s strategy verdict.names) same (subst (λ (c : Description). AreSystemNames answer.file c verdict.names) also verdict.parted) in
    let listed : verdict.names ≡ names = names_one specification strategy verdict.names names own system in
    let right : IsCounterJudgement specification strategy names verdict.judgement =
    subst (λ (s : Description). IsCounterJudgement s strategy names verdict.judgement) same
    (subst (λ (c : Description). IsCounterJudgement answer.file c names verdict.judgement) also
    (subst (λ (n : List (List ℕ)). IsCounterJudgement answer.file answer.input n verdict.judgement) listed verdict.right)) in
    let told = exact specification strategy names verdict.judgement right in (
      λ yes. told.0 (done_beats explain verdict.judgement (sym verdict.reply.0 ∙ yes.0)),
      λ is.
          (let beats : verdict.judgement ≡ judged.Beats = told.1 is in (
            verdict.reply.0 ∙ ap (λ (j : CounterJudgement). exit_of (counter_answer explain j)) beats,
            verdict.reply.1 ∙ ap (λ (j : CounterJudgement). answer_text (counter_answer explain j)) beats,
          )),
    )
