-- A stack of depths.
use Rattle.std.specs.Prelude.{ℕ, List, [], ◌∷◌}

-- the depth on top, or 0 if there is none
abbrev pub top_depth : List ℕ → ℕ
top_depth [] = 0
top_depth (depth ∷ depths) = depth

-- the depths below the top
abbrev pub depths_below : List ℕ → List ℕ
depths_below [] = []
depths_below (depth ∷ depths) = depths
