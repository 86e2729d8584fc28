-- A counter-strategy refutes: the environment gives the letter of the state that the automaton has come to. An accepted
-- word would have a run of kept edges.
use Rattle.std.proofs.Common.{◌≡◌, ℕ, zero, suc, ◌+◌, ◌<◌, ◌≤◌, Bool, List, [], ◌∷◌, length, Contains, refl, sym, ap, ap₂, subst, ◌∙◌, arith, true≢false}
use Rattle.std.specs.Prelude.{slice_index_or}
use Rattle.std.proofs.lemmas.List.Elements.{All-contains}
use Rattle.omega_hoa_automaton.specs.Automaton.{AreBelow, AreTargets, Description, IsAutomaton}
use Rattle.omega_lang_runs.specs.Lasso.{IsStart, IsStep}
use Rattle.omega_lang_runs.specs.Words.{IsAccepted}
use Rattle.omega_lang_runs.proofs.Kept.{edge_kept}
use Rattle.omega_hoa_edges.specs.Determinism.{IsDeterministic}
use Rattle.omega_synth_controllers.specs.Controllers.{AgreeOnInputs, Answers, IsCounterStrategy, IsMet}
use Rattle.omega_synth_controllers.specs.Laws.{CounterStrategiesBeat, CounterStrategiesRefute, RealizingExcludesCounterStrategies}
use Rattle.omega_synth_controllers.specs.Strategies.{Environment, System, joined, so_far, word_of}
use Rattle.omega_synth_controllers.proofs.Accepting.{Holds, holds_somewhere}
use Rattle.omega_synth_controllers.proofs.Letters.{agrees_joined}
use Rattle.omega_synth_controllers.proofs.Moving.{leads_there, next_state}
use Rattle.omega_synth_controllers.proofs.Stretches.{met_first, met_next}

-- the first state of the first start
abbrev start_of : Description → ℕ
start_of a = slice_index_or (slice_index_or a.starts 0 []) 0 0

-- a start is the only one
only_start : (starts : List (List ℕ)) (state : ℕ) → length starts ≤ 1 → Contains starts (state ∷ []) → state ≡ slice_index_or (slice_index_or starts 0 []) 0 0
only_start [] state few (k, below, is) = absurd (omega arith)
only_start (start ∷ []) state few (zero, below, is) = ap (λ (states : List ℕ). slice_index_or states 0 0) (sym is)
only_start (start ∷ []) state few (suc k, below, is) = absurd (omega arith)
only_start (start ∷ other ∷ rest) state few at = absurd (omega arith)

module _ (a : Description) (is_automaton : IsAutomaton a) where
  start_within : (state : ℕ) → IsStart a state → state < a.states
  start_within state begins =
      let targets : AreTargets a (state ∷ []) = All-contains (AreTargets a) a.starts (state ∷ []) is_automaton.starts begins in
      All-contains (λ (m : ℕ). m < a.states) (state ∷ []) state targets.below (0, omega arith, refl)

  step_within : (from number to : ℕ) → IsStep a from number to → to < a.states
  step_within from number to step =
      let below : AreBelow a.states (to ∷ []) = subst (AreBelow a.states) step.enters (edge_kept a is_automaton number step.edge step.numbered).1.targets.below in
      All-contains (λ (m : ℕ). m < a.states) (to ∷ []) to below (0, omega arith, refl)

-- a play in which the environment gives the letter of the state that the automaton has come to, whatever the system
-- gives
module _ (a : Description) (controlled kept : List ℕ) (letters : ℕ → ℕ → Bool) (is_automaton : IsAutomaton a) (deterministic : IsDeterministic a)
    (counter : IsCounterStrategy a controlled kept letters) (own : ℕ → ℕ → Bool) (at : ℕ → ℕ) (first : at 0 ≡ start_of a)
    (goes_on : (i : ℕ) → at (suc i) ≡ next_state a (at i) (joined controlled (own i) (letters (at i))))
    (accepted : IsAccepted a (λ i. joined controlled (own i) (letters (at i)))) where
  abbrev letter : ℕ → ℕ → Bool
  letter i = joined controlled (own i) (letters (at i))

  step : (i : ℕ) → IsStep a (accepted.states i) (accepted.edges i) (accepted.states (suc i))
  step i = subst (λ n. IsStep a (accepted.states i) (accepted.edges i) (accepted.states n)) next (accepted.accepting.run.steps i)
    where
      next : i + 1 ≡ suc i
      next = omega arith

  -- the run is in the states of the play
  together : (i : ℕ) → (accepted.states i ≡ at i) × (accepted.states i < a.states)
  together zero = (
    only_start a.starts (accepted.states 0) deterministic.one_start accepted.accepting.run.begins ∙ sym first,
    start_within a is_automaton (accepted.states 0) accepted.accepting.run.begins,
  )
  together (suc i) =
      let here = together i in (
        sym (leads_there a is_automaton (accepted.states i) (accepted.edges i) (accepted.states (suc i)) (letter i) (deterministic.apart (accepted.states i) here.1) (step i) (accepted.taken i))
            ∙ ap (λ state. next_state a state (letter i)) here.0 ∙ sym (goes_on i),
        step_within a is_automaton (accepted.states i) (accepted.edges i) (accepted.states (suc i)) (step i),
      )

  answers : (i : ℕ) → Answers a controlled (accepted.edges i) (letters (accepted.states i))
  answers i = record {
    letter = letter i;
    agrees = subst (λ state. AgreeOnInputs controlled (letters state) (letter i)) (sym (together i).0)
        (agrees_joined controlled (own i) (letters (at i)));
    taken = accepted.taken i;
  }

  kept_at : (i : ℕ) → IsMet a kept (accepted.states i) → Contains kept (accepted.edges i)
  kept_at i met = counter.answers_kept (accepted.states i) (accepted.edges i) (accepted.states (suc i)) met (step i) (answers i)

  met_at : (i : ℕ) → IsMet a kept (accepted.states i)
  met_at zero = met_first a kept (accepted.states 0) accepted.accepting.run.begins
  met_at (suc i) = met_next a kept (accepted.states i) (accepted.edges i) (accepted.states (suc i)) (met_at i) (kept_at i (met_at i)) (step i)

  pub never_accepted : ⊥
  never_accepted =
      let holds : Holds a kept accepted.states accepted.edges accepted.accepting.run (λ i. kept_at i (met_at i)) a.acceptance =
      holds_somewhere a kept accepted.states accepted.edges accepted.accepting.run (λ i. kept_at i (met_at i)) a.acceptance accepted.accepting.accepted in
      true≢false (sym holds.accepted ∙ counter.refused holds.state holds.cycle holds.is_cycle)

-- against one strategy of the system the environment plays so by letters alone
module _ (a : Description) (controlled : List ℕ) (letters : ℕ → ℕ → Bool) (system : System) where
  -- the letter of the round in a state, after letters of the environment
  abbrev letter_in : ℕ → List (ℕ → Bool) → ℕ → Bool
  letter_in state before = joined controlled (system (letters state ∷ before)) (letters state)

  -- the state that the automaton has come to, and the letters that the environment has given
  abbrev play : ℕ → ℕ × List (ℕ → Bool)
  play zero = (start_of a, [])
  play (suc i) = (next_state a (play i).0 (letter_in (play i).0 (play i).1), letters (play i).0 ∷ (play i).1)

  abbrev given : ℕ → ℕ → Bool
  given i = letters (play i).0

  given_so_far : (i : ℕ) → (play i).1 ≡ so_far given i
  given_so_far zero = refl
  given_so_far (suc i) = ap (λ (before : List (ℕ → Bool)). given i ∷ before) (given_so_far i)

  play_goes_on : (i : ℕ) → (play (suc i)).0 ≡ next_state a (play i).0 (word_of controlled system given i)
  play_goes_on i = ap (λ (before : List (ℕ → Bool)). next_state a (play i).0 (letter_in (play i).0 before)) (given_so_far i)

pub counter_strategies_refute : CounterStrategiesRefute
counter_strategies_refute a controlled kept letters is_automaton deterministic counter system = (
  given a controlled letters system,
  never_accepted a controlled kept letters is_automaton deterministic counter (λ i. system (so_far (given a controlled letters system) (suc i)))
      (λ i. (play a controlled letters system i).0) refl (play_goes_on a controlled letters system),
)

-- against all of them it plays so by the system's letters of the rounds before
module _ (a : Description) (controlled : List ℕ) (letters : ℕ → ℕ → Bool) where
  -- the state that the automaton has come to after letters of the system
  abbrev state_after : List (ℕ → Bool) → ℕ
  state_after [] = start_of a
  state_after (own ∷ before) = next_state a (state_after before) (joined controlled own (letters (state_after before)))

  abbrev giving : Environment
  giving before = letters (state_after before)

pub counter_strategies_beat : CounterStrategiesBeat
counter_strategies_beat a controlled kept letters is_automaton deterministic counter = (
  giving a controlled letters,
  λ own.
      never_accepted a controlled kept letters is_automaton deterministic counter own
      (λ i. state_after a controlled letters (so_far own i)) refl (λ i. refl),
)

pub realizing_excludes_counter_strategies : RealizingExcludesCounterStrategies
realizing_excludes_counter_strategies a controlled kept letters system is_automaton deterministic realizes counter =
    let refuted = counter_strategies_refute a controlled kept letters is_automaton deterministic counter system in
    refuted.1 (realizes refuted.0)
