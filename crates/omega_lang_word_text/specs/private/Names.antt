-- Names that are numbered as they come.
use Rattle.std.specs.Prelude.{ℕ, List, Option, None, Some, map}
use Rattle.std.specs.Borrow.{Bor}
use Rattle.std.specs.Str.{bytes_eq}
use Rattle.indexmap.specs.IndexSet.{insert_key}

-- the names that are referred to
abbrev pub names_in : List (Bor (List ℕ)) → List (List ℕ)
names_in keys = map (λ key. key.now) keys

-- names, and this one after them if it is not among them
abbrev pub with_some : List (List ℕ) → List ℕ → List (List ℕ)
with_some names name = insert_key bytes_eq names name

-- names, and this one, if any, after them if it is not among them
abbrev pub with_name : List (List ℕ) → Option (List ℕ) → List (List ℕ)
with_name names None = names
with_name names (Some name) = with_some names name
