-- The classes of bytes that texts of each format share.
use Rattle.std.specs.Prelude.{ℕ, Bool, ◌||◌, ◌==◌}
use Rattle.std.specs.Char.{is_ascii_alphabetic, is_ascii_alphanumeric, is_ascii_digit}

-- space, tab, line feed and carriage return
abbrev pub is_white : ℕ → Bool
is_white byte = ((byte == 32 || byte == 9) || byte == 10) || byte == 13

-- 0 to 9
abbrev pub is_digit : ℕ → Bool
is_digit byte = is_ascii_digit byte

-- a letter or an underscore, which may begin a word
abbrev pub is_letter : ℕ → Bool
is_letter byte = is_ascii_alphabetic byte || byte == 95

-- a letter, a digit, an underscore or a hyphen, which may go on in a word
abbrev pub is_word_byte : ℕ → Bool
is_word_byte byte = (is_ascii_alphanumeric byte || byte == 95) || byte == 45
