-- Sets of letters as tables of bits.
use Rattle.std.specs.Prelude.{ℕ, ◌^◌, ◌+◌, ◌-◌, ◌*◌, ◌/◌, ◌==◌, if◌then◌else◌, List, [], ◌++◌}
use Rattle.std.specs.Prelude.{drop, length, min, nat_le, replicate, take}

-- how many words of 64 bits have a bit for each letter over some names, one word at least
abbrev pub words_of : ℕ → ℕ
words_of names = 2 ^ (names - 6)

-- tables side by side: how many words each has, and the words of all
pub record LetterTables : Type 0 where
  pub width : ℕ
  pub words : List ℕ

-- no tables yet
abbrev pub no_tables : ℕ → LetterTables
no_tables width = record { width = width; words = [] }

-- how many tables there are, as far as they are counted
abbrev pub table_count : LetterTables → ℕ
table_count tables =
    if tables.width == 0 then 0 else min (length tables.words / tables.width) (2 ^ 32 - 1)

-- a table in so many words: it lacks none, and has none too many
abbrev pub fitted : ℕ → List ℕ → List ℕ
fitted width table = take width table ++ replicate (width - length table) 0

-- the table at an index, or no words past the last
abbrev pub table_at : LetterTables → ℕ → List ℕ
table_at tables index =
    if nat_le (index * tables.width + tables.width) (length tables.words)
    then take tables.width (drop (index * tables.width) tables.words) else []

-- one table more
abbrev pub with_table : LetterTables → List ℕ → LetterTables
with_table tables table =
    record { width = tables.width; words = tables.words ++ fitted tables.width table }

-- the last table is gone
abbrev pub without_last : LetterTables → LetterTables
without_last tables =
    record { width = tables.width; words = take (length tables.words - tables.width) tables.words }

-- all tables are gone
abbrev pub without_tables : LetterTables → LetterTables
without_tables tables = no_tables tables.width
