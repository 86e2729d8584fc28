-- The verdicts on an automaton tell who wins it: some strategy of the system realizes it, or some of the environment
-- beats it.
use Rattle.std.proofs.Common.{◌≡◌, ◌↔◌, ℕ, List, refl, sym, subst, ◌∙◌}
use Rattle.std.specs.Prelude.{codes}
use Rattle.omega_hoa_automaton.specs.Automaton.{Description, IsAutomaton}
use Rattle.omega_hoa_automaton.specs.Laws.{MeaningsAreAutomata}
use Rattle.omega_hoa_edges.specs.Determinism.{IsDeterministic}
use Rattle.omega_synth_controllers.specs.Controllable.{IsControlled}
use Rattle.omega_synth_controllers.specs.Laws.{BeatingExcludesRealizing, ControllersRealize, CounterStrategiesBeat}
use Rattle.omega_synth_game.specs.RoundsOf.{letters_by_state}
use Rattle.omega_text.specs.Omniscience.{LimitedPrincipleOfOmniscience}
use Rattle.omega_hoa.specs.Laws.{AutomataAreOne}
use Rattle.omega_io.specs.declared.exit.Exit.{Exit}
use Rattle.omega_io.specs.declared.exit.Exit.TheVariants.{Done, No}
use Rattle.omega_answers_synth.specs.Decide.{IsVerdict}
use Rattle.omega_synth_controllers.specs.Controllers.{HasController, HasCounterStrategy}
use Rattle.omega_answers_synth.specs.Laws.{IsBeatenBySome, IsRealizedBySome, RealizeAnswersAreExact, TellsWhoWins, WinnerAnswersAreExact}
use Rattle.omega_answers_synth.specs.Winner.{IsWinner}
use Rattle.omega_answers_synth.proofs.ControllerStated.{controlled_one}

done_no : Done ≡ No → ⊥
done_no e = cc

module _ (decided : LimitedPrincipleOfOmniscience) (realize : ControllersRealize) (beat : CounterStrategiesBeat) (apart : BeatingExcludesRealizing)
    (a : Description) (controlled : List ℕ) (automaton : IsAutomaton a) (deterministic : IsDeterministic a) where
  realized : HasController a controlled → IsRealizedBySome a controlled
  realized controller =
      let found = realize decided a controlled controller.0 controller.1 in
      (found.0, λ given. (found.1 given).0)

  beaten : HasCounterStrategy a controlled → IsBeatenBySome a controlled
  beaten counter = beat a controlled counter.0 counter.1 automaton deterministic counter.2

  pub done_tells : HasController a controlled → TellsWhoWins a controlled Done
  done_tells controller =
      let by = realized controller in
      record {
        realized = (λ is. by, λ some. refl);
        beaten = (λ is. absurd (done_no is), λ some. absurd (apart a controlled some.0 by.0 some.1 by.1));
      }

  pub no_tells : HasCounterStrategy a controlled → TellsWhoWins a controlled No
  no_tells counter =
      let by = beaten counter in
      record {
        realized = (λ is. absurd (done_no (sym is)), λ some. absurd (apart a controlled by.0 some.0 by.1 some.1));
        beaten = (λ is. by, λ some. refl);
      }

  pub verdict_tells : (exit : Exit) (output : List ℕ) → IsVerdict a controlled exit output → TellsWhoWins a controlled exit
      × ((exit ≡ Done) ↔ (output ≡ codes "realizable\n")) × ((exit ≡ No) ↔ (output ≡ codes "unrealizable\n"))
  verdict_tells Done output verdict = (
    done_tells verdict.0,
    (λ is. verdict.1, λ is. refl),
    (λ is. absurd (done_no is), λ is. absurd (other_line (sym verdict.1 ∙ is))),
  )
    where
      other_line : codes "realizable\n" ≡ codes "unrealizable\n" → ⊥
      other_line e = cc
  verdict_tells No output verdict = (
    no_tells verdict.0,
    (λ is. absurd (done_no (sym is)), λ is. absurd (other_line (sym is ∙ verdict.1))),
    (λ is. verdict.1, λ is. refl),
  )
    where
      other_line : codes "realizable\n" ≡ codes "unrealizable\n" → ⊥
      other_line e = cc

  pub winner_tells : (exit : Exit) (output : List ℕ) → IsWinner a controlled exit output → TellsWhoWins a controlled exit
  winner_tells Done output written = done_tells (written.kept, written.controller)
  winner_tells No output written = no_tells (written.kept, letters_by_state written.letters, written.counter_strategy)

pub realize_answers_are_exact : AutomataAreOne → MeaningsAreAutomata → ControllersRealize → CounterStrategiesBeat → BeatingExcludesRealizing → RealizeAnswersAreExact
realize_answers_are_exact one means realize beat apart decided text output exit a controlled answer read stated =
    let same : answer.automaton ≡ a = one text answer.automaton a answer.read read in
    let numbers : answer.holds.controlled ≡ controlled =
    controlled_one a answer.holds.controlled controlled (subst (λ (d : Description). IsControlled d answer.holds.controlled) same answer.holds.stated.controlled) stated in
    let deterministic : IsDeterministic a = subst IsDeterministic same answer.holds.judgeable.deterministic in
    verdict_tells decided realize beat apart a controlled (means read.value.raw a read.value.means) deterministic exit output
    (subst (λ (d : Description). IsVerdict d controlled exit output) same
    (subst (λ (n : List ℕ). IsVerdict answer.automaton n exit output) numbers answer.holds.verdict))

pub winner_answers_are_exact : AutomataAreOne → MeaningsAreAutomata → ControllersRealize → CounterStrategiesBeat → BeatingExcludesRealizing → WinnerAnswersAreExact
winner_answers_are_exact one means realize beat apart decided text output exit a controlled answer read stated =
    let same : answer.automaton ≡ a = one text answer.automaton a answer.read read in
    let numbers : answer.holds.controlled ≡ controlled =
    controlled_one a answer.holds.controlled controlled (subst (λ (d : Description). IsControlled d answer.holds.controlled) same answer.holds.stated.controlled) stated in
    let deterministic : IsDeterministic a = subst IsDeterministic same answer.holds.judgeable.deterministic in
    winner_tells decided realize beat apart a controlled (means read.value.raw a read.value.means) deterministic exit output
    (subst (λ (d : Description). IsWinner d controlled exit output) same
    (subst (λ (n : List ℕ). IsWinner answer.automaton n exit output) numbers answer.holds.winner))
