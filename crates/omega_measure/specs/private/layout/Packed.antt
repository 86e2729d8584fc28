-- The content of a table of words.
use Rattle.std.specs.Prelude.{◌≡◌, ℕ, ◌*◌, ◌<◌, Bool, List, length, map}
use Rattle.std.specs.List.{range_with_len}
use Rattle.omega_lift_laws.specs.Least.{limits_of}
use Rattle.omega_lift_laws.specs.Measure.{Measure}
use Rattle.omega_measure.specs.declared.field.Field.{Field}
use Rattle.omega_measure.specs.private.layout.Field.{AreFields, IsPackedRow, digits_in}
use Rattle.omega_measure.specs.private.layout.Field.{entry_limits, measure_of}
use Rattle.omega_lift_rows.specs.Rows.{allowance_of, row_of}
use Rattle.omega_measure.specs.private.layout.Shape.{Setting}
use Rattle.omega_measure.specs.Table.{Content}

-- the measure that a row of words holds in the fields
abbrev pub measure_in_row : List Field → List ℕ → Measure
measure_in_row fields row = measure_of (digits_in fields row)

-- the measure of a place
abbrev pub packed_measure : List Field → ℕ → List ℕ → ℕ → Measure
packed_measure fields size words v = measure_in_row fields (row_of size words v)

-- the new row is packed and holds the allowance of the old one
pub record HoldsAllowance (fields : List Field) (kept : ℕ) (strict : Bool)
    (old new : List ℕ) : Type 0 where
  pub packed : IsPackedRow fields new
  pub allowance : measure_in_row fields new
      ≡ allowance_of strict kept (entry_limits fields) (measure_in_row fields old)

-- the content of a table that keeps rows of words
abbrev pub packed_content : Setting → List Field → ℕ → List ℕ → Content
packed_content setting fields size words = record {
  player = setting.player;
  priorities = setting.priorities;
  measures = map (packed_measure fields size words) (range_with_len 0 (length setting.priorities));
}

-- fields for the entries of the player's measures, and for each place a row of words that holds a measure in them
pub record ArePackedRows (setting : Setting) (fields : List Field) (size : ℕ)
    (words : List ℕ) : Type 0 where
  pub fields_are : AreFields size fields
  pub limits : entry_limits fields ≡ limits_of setting.player setting.priorities
  pub rows : length words ≡ length setting.priorities * size
  pub packed : (v : ℕ) → v < length setting.priorities → IsPackedRow fields (row_of size words v)
