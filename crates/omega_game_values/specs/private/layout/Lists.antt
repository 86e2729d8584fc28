-- The last of some lists.
use Rattle.std.specs.Prelude.{◌-◌, List, [], length, slice_index_or, slice_set}

-- the last of the lists, or the empty one if there are no lists
abbrev pub last_list : {X : Type 0} → List (List X) → List X
last_list lists = slice_index_or lists (length lists - 1) []

-- the lists with another one in place of the last
abbrev pub with_last_list : {X : Type 0} → List X → List (List X) → List (List X)
with_last_list list lists = slice_set lists (length lists - 1) list
