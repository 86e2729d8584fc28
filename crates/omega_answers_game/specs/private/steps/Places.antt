-- The places of true flags.
use Rattle.std.specs.Prelude.{◌≡◌, ◌+◌, ◌<◌, List, [], ◌∷◌, Bool, true, false, Some, ℕ, length, slice_get}
use Rattle.omega_game_values.specs.Game.{Node}

-- the places of the true flags, counted from a place
abbrev pub places_from : ℕ → List Bool → List ℕ
places_from place [] = []
places_from place (true ∷ flags) = place ∷ places_from (place + 1) flags
places_from place (false ∷ flags) = places_from (place + 1) flags

-- each true flag has the place of a node of the game
abbrev pub MarksNodes : List Node → List Bool → Type 0
MarksNodes nodes flags = (place : ℕ) → slice_get flags place ≡ Some true → place < length nodes
