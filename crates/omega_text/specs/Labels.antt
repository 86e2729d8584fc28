-- Lines of the labels that DOT draws, and the names in them (the DOT language, graphviz.org/doc/info/lang.html;
-- escString).
use Rattle.std.specs.Prelude.{ℕ, ◌==◌, nat_lt, if◌then◌else◌, Option, Some, None, List, [], ◌∷◌, ◌++◌, codes}
use Rattle.std.specs.List.{flat_map}
use Rattle.std.specs.Str.Lossy.{utf8_lossy}

-- a byte of a name: a quote, a backslash, an ampersand and a line feed are escaped, and another control byte is a space
abbrev pub escaped_byte : ℕ → List ℕ
escaped_byte byte =
    if byte == 34 then codes "\\\""
    else if byte == 92 then codes "\\\\"
    else if byte == 38 then codes "&amp;"
    else if byte == 10 then codes "\\n"
    else if nat_lt byte 32 then codes " "
    else byte ∷ []

-- bytes, each escaped
abbrev pub escaped_bytes : List ℕ → List ℕ
escaped_bytes bytes = flat_map escaped_byte bytes

-- A name, so that DOT draws it, with spaces for control bytes and in UTF-8 (RFC 3629). U+FFFD replaces each longest
-- sequence of bytes that begins a character and does not end it, and each other byte of no character (the Unicode
-- Standard, section 3.9, substitution of maximal subparts).
abbrev pub escaped : List ℕ → List ℕ
escaped name = escaped_bytes (utf8_lossy name)

-- the end of a line of a label
abbrev pub line_end : List ℕ
line_end = codes "\\n"

-- the line of a name, if there is one
abbrev pub name_label_line : Option (List ℕ) → List ℕ
name_label_line None = []
name_label_line (Some name) = escaped name ++ line_end
