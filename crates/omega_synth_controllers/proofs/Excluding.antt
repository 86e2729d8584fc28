-- A controller and a counter-strategy exclude each other: played against each other they make a walk of edges that both
-- keep, which some time closes.
use Rattle.std.proofs.Common.{ℕ, zero, suc, ◌-◌, Bool, List, Contains, sym, ◌∙◌, true≢false}
use Rattle.std.proofs.lemmas.Option.{slice_get_within}
use Rattle.omega_hoa_automaton.specs.Automaton.{Description, edge_count, edges_of}
use Rattle.omega_lang_runs.specs.Lasso.{IsStep}
use Rattle.omega_lang_runs.proofs.Repeats.{Repeats, repeats}
use Rattle.omega_synth_controllers.specs.Controllers.{HasAnswer, IsController, IsCounterStrategy, IsMet}
use Rattle.omega_synth_controllers.specs.Laws.{ControllersExcludeCounterStrategies}
use Rattle.omega_synth_controllers.proofs.Stretches.{cycle_between, met_first, met_next, stretch}

module _ (a : Description) (controlled kept others : List ℕ) (letters : ℕ → ℕ → Bool) (controller : IsController a controlled kept)
    (counter : IsCounterStrategy a controlled others letters) where
  -- a state that edges lead to which the one keeps, and edges which the other keeps
  record Position : Type 0 where
    state : ℕ
    met : IsMet a kept state
    met_there : IsMet a others state

  abbrev answer : (at : Position) → HasAnswer a controlled kept at.state (letters at.state)
  answer at = controller.answered at.state (letters at.state) at.met

  kept_there : (at : Position) → Contains others (answer at).number
  kept_there at = counter.answers_kept at.state (answer at).number (answer at).next at.met_there (answer at).step (answer at).answers

  abbrev following : Position → Position
  following at = record {
    state = (answer at).next;
    met = met_next a kept at.state (answer at).number (answer at).next at.met (answer at).is_kept (answer at).step;
    met_there = met_next a others at.state (answer at).number (answer at).next at.met_there (kept_there at) (answer at).step;
  }

  abbrev play : ℕ → Position
  play zero = record {
    state = controller.begins.0;
    met = met_first a kept controller.begins.0 controller.begins.1;
    met_there = met_first a others controller.begins.0 controller.begins.1;
  }
  play (suc i) = following (play i)

  abbrev states : ℕ → ℕ
  states i = (play i).state

  abbrev edges : ℕ → ℕ
  edges i = (answer (play i)).number

  steps : (i : ℕ) → IsStep a (states i) (edges i) (states (suc i))
  steps i = (answer (play i)).step

  closes : Repeats edges → ⊥
  closes same =
      let i : ℕ = same.first in
      let cycle : List ℕ = stretch edges i (same.second - i) in
      true≢false
      (sym (controller.accepted (states i) cycle (cycle_between a states edges steps kept (λ k. (answer (play k)).is_kept) i same.second (play i).met same.later same.same))
      ∙ counter.refused (states i) cycle (cycle_between a states edges steps others (λ k. kept_there (play k)) i same.second (play i).met_there same.later same.same))

  pub never_both : ⊥
  never_both = closes (repeats edges (edge_count a) (λ k. slice_get_within (edges_of a) (edges k) (steps k).edge (steps k).numbered))

pub controllers_exclude_counter_strategies : ControllersExcludeCounterStrategies
controllers_exclude_counter_strategies a controlled kept others letters controller counter = never_both a controlled kept others letters controller counter
