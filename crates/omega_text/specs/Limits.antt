-- The limits of texts, in numbers.
use Rattle.std.specs.Prelude.{ℕ}

-- the greatest length of a text, in bytes
abbrev pub most_text : ℕ
most_text = 16777216

-- the greatest value of a number in a text
abbrev pub most_number : ℕ
most_number = 2147483647
