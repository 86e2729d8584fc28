-- The names of propositions in a drawing.
use Rattle.std.specs.Prelude.{ℕ, ◌&&◌, ◌||◌, Bool, not, if◌then◌else◌, List, [], ◌++◌, codes, slice_index_or}
use Rattle.std.specs.Str.{bytes_eq}
use Rattle.omega_text.specs.Labels.{escaped}
use Rattle.omega_hoa_edges.specs.Names.{is_identifier}

-- whether a name is that of a constant, `t` or `f`
abbrev pub is_constant : List ℕ → Bool
is_constant name = bytes_eq name (codes "t") || bytes_eq name (codes "f")

-- a name, in quotes if it is no identifier or could be taken for a constant
abbrev pub drawn_name : List ℕ → List ℕ
drawn_name name = if is_identifier name && not (is_constant name) then escaped name
    else codes "\\\"" ++ (escaped name ++ codes "\\\"")

-- the name of the proposition of a number
abbrev pub name_at : List (List ℕ) → ℕ → List ℕ
name_at names number = slice_index_or names number []
