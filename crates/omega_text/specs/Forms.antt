-- The forms that tokens of each format share.
use Rattle.std.specs.Prelude.{◌≡◌, ℕ, ◌<◌, true, List, length, slice_index, ◌-◌, take, drop}
use Rattle.std.specs.List.{AllPass}
use Rattle.omega_text.specs.Bytes.{is_digit, is_letter, is_word_byte}

-- one digit or more, and nothing else
abbrev pub IsDigits : List ℕ → Type 0
IsDigits text = (0 < length text) × AllPass is_digit text

-- a letter or an underscore, and then letters, digits, underscores and hyphens
abbrev pub IsWord : List ℕ → Type 0
IsWord text = (0 < length text) × (is_letter (slice_index text 0) ≡ true) × AllPass is_word_byte text

-- a text without the quote at either end
abbrev pub between_quotes : List ℕ → List ℕ
between_quotes text = take (length text - 2) (drop 1 text)
