-- Choices by place.
use Rattle.std.specs.Prelude.{ℕ, List, Option, None, map, option_map, slice_index, slice_index_or}

-- choices that name positions and are listed by position, as choices that name places and are listed by place
abbrev pub choices_by_place : List ℕ → List ℕ → List (Option ℕ) → List (Option ℕ)
choices_by_place positions places choices =
    map (λ r. option_map (slice_index places) (slice_index_or choices r None)) positions
