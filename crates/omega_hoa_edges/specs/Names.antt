-- Names that a text writes without quotes.
use Rattle.std.specs.Prelude.{ℕ, ◌&&◌, ◌||◌, Bool, false, List, [], ◌∷◌}
use Rattle.std.specs.List.{list_all}
use Rattle.omega_text.specs.Bytes.{is_digit, is_letter}

-- whether a byte may continue an identifier: a letter, an underscore or a digit
abbrev pub goes_on : ℕ → Bool
goes_on byte = is_letter byte || is_digit byte

-- whether a name is an identifier: a letter or an underscore, and then letters, underscores and digits
abbrev pub is_identifier : List ℕ → Bool
is_identifier [] = false
is_identifier (byte ∷ rest) = is_letter byte && list_all goes_on rest
