-- The answer of `realize` for the text of one automaton: whether it is realizable.
use Rattle.std.specs.Prelude.{◌≡◌, List, ℕ, codes}
use Rattle.omega_hoa_automaton.specs.Automaton.{Description}
use Rattle.omega_synth_controllers.specs.Controllable.{IsStated}
use Rattle.omega_synth_controllers.specs.Controllers.{HasController, HasCounterStrategy}
use Rattle.omega_io.specs.declared.exit.Exit.{Exit}
use Rattle.omega_io.specs.declared.exit.Exit.TheVariants.{Done, No}
use Rattle.omega_synth_realize.specs.Refusing.{HasNoLargeGame, IsJudgeable}
use Rattle.omega_answers.specs.OneAutomaton.{OfAutomaton}

-- `realizable` if there is a controller, and `unrealizable`, with an exit of its own, if there is a counter-strategy
abbrev pub IsVerdict : Description → List ℕ → Exit → List ℕ → Type 0
IsVerdict a controlled Done output = HasController a controlled × (output ≡ codes "realizable\n")
IsVerdict a controlled No output =
    HasCounterStrategy a controlled × (output ≡ codes "unrealizable\n")

-- the verdict on a deterministic parity automaton whose game is not too large, where the system controls the
-- propositions that its item `controllable-AP:` lists
pub record IsDecision (a : Description) (exit : Exit) (output : List ℕ) : Type 0 where
  pub controlled : List ℕ
  pub stated : IsStated a controlled
  pub judgeable : IsJudgeable a
  pub small : HasNoLargeGame a controlled
  pub verdict : IsVerdict a controlled exit output

-- the answer of `realize`: the verdict on the automaton of the text
abbrev pub IsDecisionAnswer : (text : List ℕ) → Exit → List ℕ → Type 0
IsDecisionAnswer text exit output = OfAutomaton (λ a. IsDecision a exit output) text
