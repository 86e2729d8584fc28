-- Laws of counter-strategies for a specification: judgements on them are exact, and by each of them the environment has
-- a strategy that beats the specification.
use Rattle.std.specs.Prelude.{◌≡◌, ◌↔◌, ℕ, ◌<◌, List, [], Contains, length, slice_index_or}
use Rattle.omega_hoa_automaton.specs.Automaton.{Description, IsAutomaton}
use Rattle.omega_hoa_edges.specs.Determinism.{IsDeterministic}
use Rattle.omega_synth_controllers.specs.Strategies.{Beats, Environment}
use Rattle.omega_synth_check.specs.CounterJudging.{IsCounterJudgement, IsCounterStrategyFor}
use Rattle.omega_synth_check.specs.Refusing.{AcceptsAll}
use Rattle.omega_synth_check.specs.declared.counter_judgement.CounterJudgement.{CounterJudgement}
use Rattle.omega_synth_check.specs.declared.counter_judgement.CounterJudgement.TheVariants as judged

-- the judgement is `Beats` exactly for a counter-strategy
abbrev pub CounterJudgementsAreExact : Type 0
CounterJudgementsAreExact =
    (specification strategy : Description) (controlled : List (List ℕ))
    (judgement : CounterJudgement)
    → IsCounterJudgement specification strategy controlled judgement
    → (judgement ≡ judged.Beats) ↔ IsCounterStrategyFor specification strategy controlled

-- the system controls the propositions with these numbers exactly if it controls those with their names
abbrev pub AreNumbersOfNames : Description → List ℕ → List (List ℕ) → Type 0
AreNumbersOfNames a numbers names = (p : ℕ) → p < length a.propositions
    → Contains numbers p ↔ Contains names (slice_index_or a.propositions p [])

-- from a counter-strategy for a deterministic specification there is a strategy of the environment that beats it
abbrev pub CounterStrategiesForBeat : Type 0
CounterStrategiesForBeat =
    (specification strategy : Description) (controlled : List (List ℕ)) (stated : List ℕ)
    → IsAutomaton specification → IsDeterministic specification → IsAutomaton strategy
    → AcceptsAll strategy → AreNumbersOfNames specification stated controlled
    → IsCounterStrategyFor specification strategy controlled
    → (environment : Environment) × Beats specification stated environment
