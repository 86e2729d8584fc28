-- Sets of positions, in words of bits.
use Rattle.std.specs.Prelude.{◌==◌, ℕ, ◌/◌, ◌%◌, Bool, List, slice_index}
use Rattle.std.specs.Int.{bit_at}

-- whether the bit of a position is set
abbrev pub is_set : List ℕ → ℕ → Bool
is_set words position = bit_at (slice_index words (position / 64)) (position % 64) == 1
