-- Predecessors by counting: the lists that have each place.
use Rattle.std.specs.Prelude.{◌≡◌, ℕ, ◌+◌, ◌<◌, ◌==◌, ◌++◌, List, [], length, map, take}
use Rattle.std.specs.Prelude.{sum, sum_by, count_by, replicate, slice_index, slice_index_or}
use Rattle.std.specs.List.{flat_map, range_with_len}

-- the indices of the lists that have w, rising, each as often as w is in the list
unfoldable pub predecessors_in : List (List ℕ) → ℕ → List ℕ
predecessors_in lists w =
    flat_map (λ v. replicate (count_by (λ u. u == w) (slice_index_or lists v [])) v)
    (range_with_len 0 (length lists))

-- the same for each index of a list
abbrev pub all_predecessors_in : List (List ℕ) → List (List ℕ)
all_predecessors_in lists = map (predecessors_in lists) (range_with_len 0 (length lists))

-- the same of the lists before v, and v itself as often as w is in the first j entries of list v
unfoldable pub predecessors_before : List (List ℕ) → ℕ → ℕ → ℕ → List ℕ
predecessors_before lists v j w = flat_map
    (λ u. replicate (count_by (λ x. x == w) (slice_index_or lists u [])) u) (range_with_len 0 v)
    ++ replicate (count_by (λ x. x == w) (take j (slice_index_or lists v []))) v

-- how often each place is in the lists before v and in the first j entries of list v
pub record AreCounted (lists : List (List ℕ)) (v j : ℕ) (counts : List ℕ) : Type 0 where
  pub counts_size : length counts ≡ length lists
  pub counted : (w : ℕ) → w < length lists
      → slice_index counts w ≡ length (predecessors_before lists v j w)
  pub counts_sum : sum counts ≡ sum_by (λ list. length list) (take v lists) + j

-- the start of each place's predecessors
pub record AreStartsOf (starts : List ℕ) (lists : List (List ℕ)) : Type 0 where
  pub starts_size : length starts ≡ length lists
  pub starts_first : slice_index_or starts 0 (sum_by (λ list. length list) lists) ≡ 0
  pub room : (w : ℕ) → w < length lists
      → slice_index starts w + length (predecessors_in lists w)
      ≡ slice_index_or starts (w + 1) (sum_by (λ list. length list) lists)
