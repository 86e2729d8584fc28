-- Laws of game texts, whatever reads or writes them.
use Rattle.std.specs.Prelude.{◌≡◌, ℕ, ◌≤◌, ◌⊎◌, List, length}
use Rattle.omega_text.specs.Limits.{most_text}
use Rattle.omega_text.specs.declared.refusal.Refusal.{Refusal}
use Rattle.omega_game_values.specs.Game.{Node, IsGame, IsWithinLimits}
use Rattle.omega_pg.specs.game.Canonical.{canonical_game}
use Rattle.omega_pg.specs.game.Refusing.{IsRefusal}
use Rattle.omega_pg.specs.game.Text.{IsGameText}

-- a text describes at most one game
abbrev pub GamesOfTextsAreOne : Type 0
GamesOfTextsAreOne = (source : List ℕ) (one other : List Node) → IsGameText source one
    → IsGameText source other → one ≡ other

-- a text has at most one refusal
abbrev pub GameRefusalsAreOne : Type 0
GameRefusalsAreOne = (source : List ℕ) (one other : Refusal) → IsRefusal source one
    → IsRefusal source other → one ≡ other

-- a text that describes a game has no refusal
abbrev pub GamesAreNotRefused : Type 0
GamesAreNotRefused = (source : List ℕ) (game : List Node) (refusal : Refusal)
    → IsGameText source game → IsRefusal source refusal → ⊥

-- a text describes a game or has a refusal
abbrev pub TextsAreReadOrRefused : Type 0
TextsAreReadOrRefused = (source : List ℕ) → ((game : List Node) × IsGameText source game)
    ⊎ ((refusal : Refusal) × IsRefusal source refusal)

-- the canonical text of a game, within the limit of texts, describes that game
abbrev pub CanonicalGamesAreRead : Type 0
CanonicalGamesAreRead = (nodes : List Node) → IsGame nodes → IsWithinLimits nodes
    → length (canonical_game nodes) ≤ most_text → IsGameText (canonical_game nodes) nodes
