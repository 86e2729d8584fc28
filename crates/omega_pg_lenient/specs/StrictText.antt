-- The text of the strict format that stands for a lenient game text.
use Rattle.std.specs.Prelude.{◌≡◌, ℕ, List}
use Rattle.omega_game_values.specs.Game.{Node}
use Rattle.omega_pg.specs.game.Canonical.{canonical_game}
use Rattle.omega_pg_lenient.specs.Text.{IsLenientGameText}

-- the text is the canonical text of the game that the lenient text describes
abbrev pub IsStrictGameText : (source text : List ℕ) → Type 0
IsStrictGameText source text = (game : List Node) × IsLenientGameText source game
    × (text ≡ canonical_game game)
