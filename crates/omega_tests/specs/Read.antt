-- How far a tokenizer has read.
use Rattle.std.specs.Prelude.{◌≡◌, ℕ, List, length}
use Rattle.omega_text.specs.Lexeme.{Lexeme}
use Rattle.omega_text.specs.declared.hoa.kind.HoaKind.{HoaKind}
use Rattle.omega_text.specs.hoa.Pieces.{Reading}

-- this many bytes were read
abbrev pub HasReadTo : Reading → ℕ → Type 0
HasReadTo IsRead place = (seen : List ℕ) × (lexemes : List (Lexeme HoaKind)) × IsRead seen lexemes
    × (length seen ≡ place)
