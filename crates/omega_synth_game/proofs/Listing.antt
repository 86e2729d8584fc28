-- The place of a number.
use Rattle.std.proofs.Common.{ℕ, ◌<◌, List, length, get_or}
use Rattle.std.proofs.lemmas.Option.{slice_get-get_or}
use Rattle.omega_hoa_automaton.specs.Automaton.{Description}
use Rattle.omega_lang_runs.specs.Places.{ArePlaces, EdgeStandsAt}
use Rattle.omega_lang_runs.specs.declared.place.EdgePlace.{EdgePlace}

pub stands_at : (a : Description) (places : List EdgePlace) (number : ℕ) (d : EdgePlace) → ArePlaces a places → number < length places
    → EdgeStandsAt a number (get_or places number d)
stands_at a places number d are below = are.each number (get_or places number d) (slice_get-get_or places number d below)
