-- The states that a search meets, in this order, each once, and how each was entered.
use Rattle.std.specs.Prelude.{◌≡◌, ℕ, ◌<◌, List, ◌++◌, Contains, Option}
use Rattle.std.specs.Prelude.{None, Some, length, nat_eq, slice_index_or}
use Rattle.std.specs.List.{IsDistinct}
use Rattle.omega_hoa_automaton.specs.Automaton.{Description}
use Rattle.omega_lang_runs.specs.Lasso.{IsStart, IsStep}
use Rattle.omega_synth_check.specs.declared.meeting.StateEntry.{StateEntry}
use Rattle.omega_synth_check.specs.declared.meeting.MetStates.{MetStates}

-- the state at a place
abbrev pub state_at : List ℕ → ℕ → ℕ
state_at states place = slice_index_or states place 0

-- the entry at a place
abbrev pub entry_at : List (Option StateEntry) → ℕ → Option StateEntry
entry_at entries place = slice_index_or entries place None

-- the state at a place is a start, or the edge of its entry leads to it from a state at a place before
abbrev pub IsEntered : Description → List ℕ → ℕ → Option StateEntry → ℕ → Type 0
IsEntered a states place None state = IsStart a state
IsEntered a states place (Some entry) state =
    (entry.from < place) × IsStep a (state_at states entry.from) entry.edge state

-- different states, and for each how it was entered
pub record AreMet (a : Description) (states : List ℕ) (entries : List (Option StateEntry)) : Type 0 where
  pub distinct : IsDistinct nat_eq states
  pub paired : length entries ≡ length states
  pub each : (place : ℕ) → place < length states
      → IsEntered a states place (entry_at entries place) (state_at states place)

-- the states of a search
abbrev pub IsMetOf : Description → MetStates → Type 0
IsMetOf a met = AreMet a met.states.keys met.entries.items

-- all states are there still, at their places
pub record Extends (states more : List ℕ) : Type 0 where
  pub extra : List ℕ
  pub is : more ≡ states ++ extra

-- each start is met
abbrev pub HasStarts : Description → List ℕ → Type 0
HasStarts a states = (start : ℕ) → IsStart a start → Contains states start

-- what each of these edges enters from a state is met
abbrev pub HasEntered : Description → ℕ → List ℕ → List ℕ → Type 0
HasEntered a state numbers states =
    (number next : ℕ) → Contains numbers number → IsStep a state number next → Contains states next

-- what each edge enters from a state is met
abbrev pub HasNext : Description → ℕ → List ℕ → Type 0
HasNext a state states = (number next : ℕ) → IsStep a state number next → Contains states next
