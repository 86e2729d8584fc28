-- Identifiers and their places.
use Rattle.std.specs.Prelude.{ℕ, ◌==◌, Bool, List, is_some, position, unwrap_or}
use Rattle.std.specs.List.{list_all}

-- whether an identifier is among these
unfoldable pub is_defined : List ℕ → ℕ → Bool
is_defined ids x = is_some (position (λ id. id == x) ids)

-- the place of an identifier among these, or itself if it is not there
unfoldable pub resolved_in : List ℕ → ℕ → ℕ
resolved_in ids x = unwrap_or (position (λ id. id == x) ids) x

-- whether each identifier in the lists is among these
abbrev pub are_defined : List ℕ → List (List ℕ) → Bool
are_defined ids lists = list_all (λ list. list_all (is_defined ids) list) lists
