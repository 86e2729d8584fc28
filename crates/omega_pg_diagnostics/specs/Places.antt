-- The line that names a place of a text: its line, its column, and what is there.
use Rattle.std.specs.Prelude.{ℕ, ◌+◌, ◌/◌, ◌%◌, max, Bool, not, ◌&&◌, ◌==◌, nat_lt, if◌then◌else◌}
use Rattle.std.specs.Prelude.{List, [], ◌∷◌, ◌++◌, length, take, drop, codes, count_by, decimal}
use Rattle.std.specs.Int.{is_in_range}
use Rattle.std.specs.List.{flat_map, prefix_len, suffix_len}
use Rattle.omega_text.specs.Bytes.{is_white}

-- the byte that ends a line
abbrev pub is_line_feed : ℕ → Bool
is_line_feed byte = byte == 10

-- a byte that does not end a line
abbrev pub is_in_line : ℕ → Bool
is_in_line byte = not (is_line_feed byte)

-- the number of a place's line: 1, and 1 more for each line feed before the place
abbrev pub line_of : List ℕ → ℕ → ℕ
line_of text at = 1 + count_by is_line_feed (take at text)

-- the number of a place's column: 1, and 1 more for each byte between the last line feed before the place, or the
-- beginning, and the place
abbrev pub column_of : List ℕ → ℕ → ℕ
column_of text at = 1 + suffix_len is_in_line (take at text)

-- a byte that is no white space
abbrev pub is_black : ℕ → Bool
is_black byte = not (is_white byte)

-- as many bytes from the front as come before white space or the end, but at least one
abbrev pub word_of : List ℕ → List ℕ
word_of bytes = take (max (prefix_len is_black bytes) 1) bytes

-- a printable byte of ASCII but the quote and the backslash
abbrev pub is_plain : ℕ → Bool
is_plain byte = (is_in_range 32 126 byte && not (byte == 39)) && not (byte == 92)

-- the hexadecimal digit with this value: `0` to `9` and `a` to `f`
abbrev pub hexadecimal_digit : ℕ → ℕ
hexadecimal_digit value = if nat_lt value 10 then 48 + value else 87 + value

-- a byte as it is shown: itself if it is plain, else `\x` and its two hexadecimal digits
abbrev pub shown_byte : ℕ → List ℕ
shown_byte byte =
    if is_plain byte then byte ∷ []
    else codes "\\x" ++ (hexadecimal_digit (byte / 16) ∷ hexadecimal_digit (byte % 16) ∷ [])

-- the most bytes of a word that are shown
abbrev pub most_shown : ℕ
most_shown = 40

-- what stands behind the quotes: three dots if the word has more bytes than are shown
abbrev pub dots_after : List ℕ → List ℕ
dots_after word = if nat_lt most_shown (length word) then codes "..." else []

-- a word between single quotes, at most its first 40 bytes
abbrev pub quoted : List ℕ → List ℕ
quoted word =
    codes "'" ++ (flat_map shown_byte (take most_shown word) ++ (codes "'" ++ dots_after word))

-- what is at the front of the bytes: their first word, or the end of the text
abbrev pub shown : List ℕ → List ℕ
shown [] = codes "end of the text"
shown (byte ∷ rest) = quoted (word_of (byte ∷ rest))

-- the line that names a place of a text
abbrev pub place_line : List ℕ → ℕ → List ℕ
place_line text at = codes "omega: line " ++ (decimal (line_of text at) ++ (codes ", column "
    ++ (decimal (column_of text at) ++ (codes ": " ++ (shown (drop at text) ++ codes "\n")))))
