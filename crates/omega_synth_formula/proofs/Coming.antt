-- The states that a strategy reaches are among its states.
use Rattle.std.proofs.Common.{ℕ, ◌<◌, List, [], ◌∷◌, refl, subst}
use Rattle.omega_hoa_automaton.specs.Automaton.{Description, IsAutomaton}
use Rattle.omega_lang_runs.specs.Lasso.{IsStart, Leads}
use Rattle.omega_synth_check.specs.Judging.{IsReached}
use Rattle.omega_synth_check.proofs.Coming.{step_goes}
use Rattle.omega_synth_check.proofs.Rests.{goes_within, start_within}

pub reached_start : (a : Description) (start : ℕ) → IsStart a start → IsReached a start
reached_start a start begins = record { start = start; begins = begins; numbers = []; leads = refl }

module _ (a : Description) (automaton : IsAutomaton a) where
  within : (from : ℕ) (numbers : List ℕ) (to : ℕ) → from < a.states → Leads a from numbers to → to < a.states
  within from [] to below leads = subst (λ (s : ℕ). s < a.states) leads below
  within from (number ∷ numbers) to below leads =
      let goes = step_goes a automaton from number leads.0 leads.1 in
      within leads.0 numbers to (goes_within a automaton goes.0 from leads.0 goes.1) leads.2

  pub reached_within : (state : ℕ) → IsReached a state → state < a.states
  reached_within state reached = within reached.start reached.numbers state (start_within a automaton reached.start reached.begins) reached.leads
