-- The places of a state's edges.
use Rattle.std.specs.Prelude.{ℕ, List, map}
use Rattle.std.specs.List.{range_with_len}
use Rattle.omega_lang_runs.specs.declared.place.EdgePlace.{EdgePlace}

-- the places of the first `count` edges of the state at index `state`
abbrev pub places_in : ℕ → ℕ → List EdgePlace
places_in state count =
    map (λ index. record { state = state; index = index }) (range_with_len 0 count)
