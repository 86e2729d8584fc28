-- Rows of one width side by side, and measures as rows.
use Rattle.std.specs.Prelude.{◌≡◌, ◌≢◌, ℕ, ◌+◌, ◌*◌, ◌<◌, ◌≤◌, Bool, true, Some, None, List, Option, length}
use Rattle.std.specs.Prelude.{take, drop, option_map, slice_index, slice_index_or, if◌then◌else◌}
use Rattle.std.specs.declared.cmp.Ordering.{Ordering}
use Rattle.omega_lift_laws.specs.Least.{cleared_after, raised}
use Rattle.omega_lift_laws.specs.Measure.{Measure, compare}

-- the row of a place, if rows of one width lie side by side
abbrev pub row_of : {X : Type 0} → ℕ → List X → ℕ → List X
row_of width entries v = take width (drop (v * width) entries)

-- the measure of a place: top if its flag is set, else its row
abbrev pub measure_in : ℕ → List Bool → List ℕ → ℕ → Measure
measure_in width tops entries v =
    if slice_index_or tops v true then None else Some (row_of width entries v)

-- two measures compared on their first `kept` entries
abbrev pub compare_kept : ℕ → Measure → Measure → Ordering
compare_kept kept x y = compare (option_map (take kept) x) (option_map (take kept) y)

-- the entries from `low` up to `high` are at their limits
abbrev pub AreAtLimits : List ℕ → List ℕ → ℕ → ℕ → Type 0
AreAtLimits entries limits low high =
    (k : ℕ) → low ≤ k → k < high → slice_index limits k ≤ slice_index entries k

-- the last of the first `kept` entries that is below its limit
pub record IsLastBelow (entries limits : List ℕ) (kept at : ℕ) : Type 0 where
  pub within : at < kept
  pub below : slice_index entries at < slice_index limits at
  pub following : AreAtLimits entries limits (at + 1) kept

-- the entries of an allowance: raised at the last of the first `kept` that is below its limit, or with all after the
-- first `kept` cleared
abbrev pub allowed : Bool → ℕ → List ℕ → List ℕ → Option (List ℕ)
allowed strict kept limits entries =
    if strict then raised kept limits entries else Some (cleared_after kept entries)

-- the allowance of a measure: the least measure that suffices towards it
abbrev pub allowance_of : Bool → ℕ → List ℕ → Measure → Measure
allowance_of strict kept limits None = None
allowance_of strict kept limits (Some entries) = allowed strict kept limits entries

-- the row of v is now `row`, and all other rows are as they were
pub record WritesRow {X : Type 0} (width : ℕ) (old new : List X) (v : ℕ) (row : List X) : Type 0 where
  pub count : length new ≡ length old
  pub written : row_of width new v ≡ row
  pub others : (u : ℕ) → u ≢ v → u * width + width ≤ length old
      → row_of width new u ≡ row_of width old u

-- v has a new measure, and all others keep theirs
pub record WritesMeasure (width : ℕ) (tops : List Bool) (entries : List ℕ) (new_tops : List Bool)
    (new_entries : List ℕ) (v : ℕ) (x : Measure) : Type 0 where
  pub flags : length new_tops ≡ length tops
  pub cells : length new_entries ≡ length entries
  pub written : measure_in width new_tops new_entries v ≡ x
  pub others : (u : ℕ) → u ≢ v → u < length tops
      → measure_in width new_tops new_entries u ≡ measure_in width tops entries u
