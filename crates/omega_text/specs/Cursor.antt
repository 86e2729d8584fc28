-- What a cursor shows.
use Rattle.std.specs.Prelude.{ℕ, List, [], ◌∷◌}
use Rattle.omega_text.specs.Lexeme.{Lexeme}

-- the place of the next token, or the text's length if none is left
abbrev pub next_place : {Kind : Type 0} → List (Lexeme Kind) → ℕ → ℕ
next_place [] length = length
next_place (lexeme ∷ rest) length = lexeme.span.start
