-- Laws of controllers and of counter-strategies: the ones realize, the others refute, and no automaton has both.
use Rattle.std.specs.Prelude.{ℕ, Bool, List, Contains}
use Rattle.omega_hoa_automaton.specs.Automaton.{Description, IsAutomaton}
use Rattle.omega_lang_runs.specs.Lasso.{marks_at}
use Rattle.omega_lang_runs.specs.Runs.{IsRun, Satisfies}
use Rattle.omega_hoa_edges.specs.Determinism.{IsDeterministic}
use Rattle.omega_synth_controllers.specs.Controllers.{IsController, IsCounterStrategy}
use Rattle.omega_synth_controllers.specs.Strategies.{Beats, Environment, HasKeptRun, IsRefuted}
use Rattle.omega_synth_controllers.specs.Strategies.{Realizes, RealizesBy, System, word_of}
use Rattle.omega_text.specs.Omniscience.{LimitedPrincipleOfOmniscience}

-- no automaton has both a controller and a counter-strategy
abbrev pub ControllersExcludeCounterStrategies : Type 0
ControllersExcludeCounterStrategies =
    (a : Description) (controlled kept others : List ℕ) (letters : ℕ → ℕ → Bool)
    → IsController a controlled kept → IsCounterStrategy a controlled others letters → ⊥

-- from a controller there is a strategy of the system such that the word of what the environment gives and of the
-- answers has a run of the controller's edges
abbrev pub ControllersAnswer : Type 0
ControllersAnswer = (a : Description) (controlled kept : List ℕ) → IsController a controlled kept
    → (system : System) × ((given : ℕ → ℕ → Bool) → HasKeptRun a kept (word_of controlled system given))

-- by the limited principle of omniscience, each run of a controller's edges is accepting
abbrev pub KeptRunsAreAccepting : Type 0
KeptRunsAreAccepting = LimitedPrincipleOfOmniscience
    → (a : Description) (controlled kept : List ℕ) (states edges : ℕ → ℕ)
    → IsController a controlled kept → IsRun a states edges → ((i : ℕ) → Contains kept (edges i))
    → Satisfies (λ i. marks_at a (edges i)) a.acceptance

-- by the limited principle of omniscience, some strategy of the system realizes an automaton by the edges of
-- a controller
abbrev pub ControllersRealize : Type 0
ControllersRealize =
    LimitedPrincipleOfOmniscience
    → (a : Description) (controlled kept : List ℕ) → IsController a controlled kept
    → (system : System) × RealizesBy a controlled kept system

-- a deterministic automaton with a counter-strategy is refuted
abbrev pub CounterStrategiesRefute : Type 0
CounterStrategiesRefute =
    (a : Description) (controlled kept : List ℕ) (letters : ℕ → ℕ → Bool) → IsAutomaton a
    → IsDeterministic a → IsCounterStrategy a controlled kept letters → IsRefuted a controlled

-- no strategy realizes a deterministic automaton with a counter-strategy
abbrev pub RealizingExcludesCounterStrategies : Type 0
RealizingExcludesCounterStrategies =
    (a : Description) (controlled kept : List ℕ) (letters : ℕ → ℕ → Bool) (system : System)
    → IsAutomaton a → IsDeterministic a → Realizes a controlled system
    → IsCounterStrategy a controlled kept letters → ⊥

-- the environment has one strategy that beats a deterministic automaton with a counter-strategy
abbrev pub CounterStrategiesBeat : Type 0
CounterStrategiesBeat =
    (a : Description) (controlled kept : List ℕ) (letters : ℕ → ℕ → Bool) → IsAutomaton a
    → IsDeterministic a → IsCounterStrategy a controlled kept letters
    → (environment : Environment) × Beats a controlled environment

-- no automaton has both a strategy of the environment that beats it and one of the system that realizes it
abbrev pub BeatingExcludesRealizing : Type 0
BeatingExcludesRealizing =
    (a : Description) (controlled : List ℕ) (environment : Environment) (system : System)
    → Beats a controlled environment → Realizes a controlled system → ⊥
