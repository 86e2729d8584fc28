-- The edges that leave the states of an automaton, by the places of the edges.
use Rattle.std.specs.Prelude.{◌≡◌, ◌↔◌, ℕ, ◌<◌, List, [], Contains, length, map, nat_eq, slice_index_or}
use Rattle.std.specs.List.{IsDistinct}
use Rattle.omega_hoa_automaton.specs.Automaton.{Description}
use Rattle.omega_lang_runs.specs.Places.{ArePlaces}
use Rattle.omega_lang_runs.specs.declared.place.EdgePlace.{EdgePlace}
use Rattle.omega_synth_game.specs.Making.{IsLeaving}
use Rattle.omega_synth_check.specs.declared.leaving.Leaving.{Leaving}

-- the place that stands for one that is not there
abbrev pub no_place : EdgePlace
no_place = record { state = 0; index = 0 }

-- the edge with a number below the end is at the state with this index
abbrev pub StandsBelow : List EdgePlace → ℕ → ℕ → ℕ → Type 0
StandsBelow places end index number =
    (number < end) × ((slice_index_or places number no_place).state ≡ index)

-- the numbers of the edges below the end, by the index of the state that they leave
pub record AreListed (places : List EdgePlace) (states end : ℕ) (lists : List (List ℕ)) : Type 0 where
  pub entries : length lists ≡ states
  pub each : (index number : ℕ) → index < states
      → Contains (slice_index_or lists index []) number ↔ StandsBelow places end index number

-- the places of all edges, the numbers of the states that are defined, and the edges of each of these
pub record IsLeavingOf (a : Description) (leaving : Leaving) : Type 0 where
  pub places : ArePlaces a leaving.places.items
  pub numbers : leaving.numbers.keys ≡ map (λ state. state.number) a.defined
  pub distinct : IsDistinct nat_eq leaving.numbers.keys
  pub listed : AreListed leaving.places.items (length a.defined)
      (length leaving.places.items) leaving.lists.items

-- the numbers are exactly those of the edges that leave the state
abbrev pub AreLeavers : Description → ℕ → List ℕ → Type 0
AreLeavers a state numbers = (number : ℕ) → Contains numbers number ↔ IsLeaving a state number
