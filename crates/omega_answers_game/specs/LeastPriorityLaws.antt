-- What holds of turned games, whatever the code does.
use Rattle.std.specs.Prelude.{◌≤◌, ◌↔◌, List, Option, length, ℕ}
use Rattle.omega_text.specs.Limits.{most_text}
use Rattle.omega_game_values.specs.declared.player.Player.{Player}
use Rattle.omega_game_values.specs.Game.{IsGame, IsWithinLimits, Node}
use Rattle.omega_game_values.specs.Winning.{InRegion, IsStrategy, Wins}
use Rattle.omega_pg.specs.game.Text.{IsGameText}
use Rattle.omega_answers_game.specs.Least.{IsCanonLeastAnswer}
use Rattle.omega_answers_game.specs.Turning.{turned_game}
use Rattle.omega_answers_game.specs.Verify.{IsJudgedGame}
use Rattle.omega_answers_game.specs.Winning.{InLeastRegion, WinsByLeast}

-- a strategy is one of the turned game too, and wins there exactly if it wins by the least priority
abbrev pub TurnedGamesWinAlike : Type 0
TurnedGamesWinAlike =
    (nodes : List Node) (player : Player) (choices : List (Option ℕ))
    → (IsStrategy nodes player choices ↔ IsStrategy (turned_game nodes) player choices)
    × ((v : ℕ) → WinsByLeast nodes player choices v ↔ Wins (turned_game nodes) player choices v)

-- a player wins a node by the least priority exactly if the player wins it in the turned game
abbrev pub TurnedRegionsAreAlike : Type 0
TurnedRegionsAreAlike = (nodes : List Node) (player : Player) (v : ℕ)
    → InLeastRegion nodes player v ↔ InRegion (turned_game nodes) player v

-- the turned game of a game is a game
abbrev pub TurnedGamesAreGames : Type 0
TurnedGamesAreGames = (nodes : List Node) → IsGame nodes → IsGame (turned_game nodes)

-- the turned game of a game within the limits is within them
abbrev pub TurnedGamesKeepLimits : Type 0
TurnedGamesKeepLimits =
    (nodes : List Node) → IsWithinLimits nodes → IsWithinLimits (turned_game nodes)

-- what `canon --min` writes for a game to be judged, within the limit of texts, describes its turned game
abbrev pub TurnedTextsAreRead : Type 0
TurnedTextsAreRead = (text : List ℕ) (from : Option ℕ) (game : List Node) (output : List ℕ)
    → IsJudgedGame text from game → IsCanonLeastAnswer text from output
    → length output ≤ most_text → IsGameText output (turned_game game)
