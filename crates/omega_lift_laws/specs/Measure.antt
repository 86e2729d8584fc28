-- Small progress measures (Jurdziński 2000), their order, and their rank among all measures.
use Rattle.std.specs.Prelude.{◌≡◌, ◌≢◌, ℕ, ◌<◌, ◌≤◌, ◌+◌, ◌*◌, Option, Some, None, List, [], ◌∷◌, length, map}
use Rattle.std.specs.Prelude.{take, replicate, count_by, nat_le, slice_index, option_map}
use Rattle.std.specs.declared.cmp.Ordering.{Ordering}
use Rattle.std.specs.declared.cmp.Ordering.TheVariants.{Equal, Greater, Less}
use Rattle.std.specs.Ordering.{nat_cmp}
use Rattle.std.specs.Cmp.Lexicographic.{slice_cmp}
use Rattle.omega_game_values.specs.declared.player.Player.{Player}
use Rattle.omega_game_values.specs.Bound.{occurrences, losing_priorities, product, product_of}

-- a measure: top (none), or an entry for each losing priority in use, the greatest first
abbrev pub Measure : Type 0
Measure = Option (List ℕ)

-- the entries of a measure below top: that for a priority is at most the number of nodes of that priority
pub record AreEntries (player : Player) (priorities : List ℕ) (entries : List ℕ) : Type 0 where
  pub count : length entries ≡ length (losing_priorities player priorities)
  pub limits : (k : ℕ) → k < length entries → slice_index entries k
      ≤ occurrences priorities (slice_index (losing_priorities player priorities) k)

-- a measure of the player, for nodes with these priorities
abbrev pub IsMeasure : Player → List ℕ → Measure → Type 0
IsMeasure player priorities None = Unit {0}
IsMeasure player priorities (Some entries) = AreEntries player priorities entries

-- the order of measures: top is above all others, and below top the first entry that differs decides
abbrev pub compare : Measure → Measure → Ordering
compare None None = Equal
compare None (Some ys) = Greater
compare (Some xs) None = Less
compare (Some xs) (Some ys) = slice_cmp nat_cmp xs ys

-- x is at most y
abbrev pub IsAtMost : Measure → Measure → Type 0
IsAtMost x y = compare x y ≢ Greater

-- x is above y
abbrev pub IsAbove : Measure → Measure → Type 0
IsAbove x y = compare x y ≡ Greater

-- the number of entries of a measure for priorities at least p
abbrev pub entries_from : Player → List ℕ → ℕ → ℕ
entries_from player priorities p = count_by (λ q. nat_le p q) (losing_priorities player priorities)

-- the order of measures on the entries for priorities at least p
abbrev pub compare_from : Player → List ℕ → ℕ → Measure → Measure → Ordering
compare_from player priorities p x y =
    let kept = entries_from player priorities p in
    compare (option_map (take kept) x) (option_map (take kept) y)

-- the least measure: every entry 0
abbrev pub zero_measure : Player → List ℕ → Measure
zero_measure player priorities = Some (replicate (length (losing_priorities player priorities)) 0)

-- the entries as one number in mixed radix: the radix of the entry for q is one more than the number of nodes of
-- priority q, and the greatest priority comes first
abbrev pub mixed_radix : List ℕ → List ℕ → List ℕ → ℕ
mixed_radix priorities [] entries = 0
mixed_radix priorities (q ∷ qs) [] = 0
mixed_radix priorities (q ∷ qs) (x ∷ xs) =
    x * product (map (λ r. 1 + occurrences priorities r) qs) + mixed_radix priorities qs xs

-- the rank of a measure among all: the product for top, and the entries as one number below top
abbrev pub rank : Player → List ℕ → Measure → ℕ
rank player priorities None = product_of player priorities
rank player priorities (Some entries) =
    mixed_radix priorities (losing_priorities player priorities) entries
