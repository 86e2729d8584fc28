-- Lists that lie one after the other in one vector.
use Rattle.std.specs.Prelude.{◌≡◌, ℕ, ◌+◌, ◌≤◌, List, length, map, slice_index_or, slice_range}
use Rattle.std.specs.List.{range_with_len}

-- list i of those that lie one after the other: from its start to the start of the next one, or to the end
unfoldable pub list_at : {X : Type 0} → List ℕ → List X → ℕ → List X
list_at starts items i = slice_range items (slice_index_or starts i (length items))
    (slice_index_or starts (i + 1) (length items))

-- the lists that lie one after the other, one for each start
unfoldable pub lists_of : {X : Type 0} → List ℕ → List X → List (List X)
lists_of starts items = map (list_at starts items) (range_with_len 0 (length starts))

-- the starts of lists that lie one after the other in a vector of this size, and fill it
pub record AreStarts (starts : List ℕ) (size : ℕ) : Type 0 where
  pub first : slice_index_or starts 0 size ≡ 0
  pub rising : (i j : ℕ) → i ≤ j → slice_index_or starts i size ≤ slice_index_or starts j size
