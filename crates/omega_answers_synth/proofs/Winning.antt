-- The text of the winner's automaton is that of a controller or of a counter-strategy.
use Rattle.std.proofs.Common.{◌≡◌, ℕ, List, subst}
use Rattle.omega_hoa_automaton.specs.Automaton.{Description}
use Rattle.omega_io.specs.declared.exit.Exit.TheVariants.{Done, No}
use Rattle.omega_synth_realize.specs.Realizing.{IsRealizability}
use Rattle.omega_synth_realize.specs.declared.realizability.Realizability.{Realizability}
use Rattle.omega_synth_realize.specs.declared.realizability.Realizability.TheVariants.{Realizable, Unrealizable}
use Rattle.omega_synth_text.specs.Winner.{IsControllerText, IsCounterStrategyText}
use Rattle.omega_answers_synth.specs.Winner.{IsWinner}

module _ (a : Description) (controlled : List ℕ) (found : Realizability) where
  -- that of a controller, if there is one
  pub controller_wins : (edges kept text : List ℕ) → IsRealizability a controlled found → found ≡ Realizable kept → edges ≡ kept
      → IsControllerText a controlled edges text → IsWinner a controlled Done text
  controller_wins edges kept text right is same written =
      let won = subst (λ (realizability : Realizability). IsRealizability a controlled realizability) is right in
      record { kept = kept; controller = won.0; written = subst (λ (numbers : List ℕ). IsControllerText a controlled numbers text) same written }

  -- and that of a counter-strategy, if there is one
  pub counter_strategy_wins : (edges kept : List ℕ) (given letters : List (List ℕ)) (text : List ℕ) → IsRealizability a controlled found
      → found ≡ Unrealizable kept letters → edges ≡ kept → given ≡ letters → IsCounterStrategyText a controlled edges given text → IsWinner a controlled No text
  counter_strategy_wins edges kept given letters text right is same_edges same_letters written =
      let won = subst (λ (realizability : Realizability). IsRealizability a controlled realizability) is right in
      record {
        kept = kept;
        letters = letters;
        counter_strategy = won.0;
        least = won.2;
        written = subst (λ (all : List (List ℕ)). IsCounterStrategyText a controlled kept all text) same_letters
            (subst (λ (numbers : List ℕ). IsCounterStrategyText a controlled numbers given text) same_edges written);
      }
