-- Room that a caller lends: what it holds once something was copied into it.
use Rattle.std.specs.Prelude.{List, ◌++◌, drop, length, take}

-- the items from the first on, as many as there is room for; the rest of the room is as it was
abbrev pub laid_over : {A : Type 0} → List A → List A → List A
laid_over items room = take (length room) items ++ drop (length items) room
