-- The answer of `solve`: a right answer for the game, or for the part that one node reaches.
use Rattle.std.specs.Prelude.{◌↔◌, ◌<◌, List, Option, Some, None, ℕ, length, slice_index}
use Rattle.omega_game_values.specs.declared.player.Player.{Player}
use Rattle.omega_game_values.specs.Game.{Node}
use Rattle.omega_game_reaching.specs.Part.{IsPartAt}
use Rattle.omega_game_values.specs.Winning.{InRegion}
use Rattle.omega_pg.specs.game.Text.{IsGameText}
use Rattle.omega_answers_game.specs.Part.{HasIdentifier}
use Rattle.omega_answers_game.specs.solve.AnswerText.{IsAnswerOf}
use Rattle.omega_answers_game.specs.declared.solve.asked.Asked.{Asked}
use Rattle.omega_answers_game.specs.declared.solve.asked.Asked.TheVariants as way
use Rattle.omega_answers_game.specs.solve.Solution.{IsExactSolutionOf, IsSolutionOf}

-- the kept nodes are in the player's region of the part exactly if they are in that of the game
abbrev pub SameRegions : List Node → List ℕ → List Node → Player → Type 0
SameRegions game kept part player =
    (k : ℕ) → k < length kept → InRegion part player k ↔ InRegion game player (slice_index kept k)

-- a right answer for a whole game: the answer text of a player, or the solution text of lifting runs or of a search
abbrev pub SolvesWhole : List Node → Asked → ℕ → List ℕ → Type 0
SolvesWhole nodes way.Both budget output = IsSolutionOf nodes budget output
SolvesWhole nodes way.Search budget output = IsExactSolutionOf nodes output
SolvesWhole nodes (way.Player player) budget output =
    (lifts : ℕ) × IsAnswerOf nodes player budget lifts output

-- a right answer for the part that the node with the identifier reaches, whose nodes are won in the part exactly if
-- they are won in the game
pub record SolvesPart (game : List Node) (asked : Asked) (identifier budget : ℕ)
    (output : List ℕ) : Type 0 where
  pub place : ℕ
  pub identified : HasIdentifier game identifier place
  pub kept : List ℕ
  pub part : List Node
  pub reached : IsPartAt game place kept part
  pub answer : SolvesWhole part asked budget output
  pub regions : (player : Player) → SameRegions game kept part player

-- a right answer for the game, or if an identifier is given, for the part that its node reaches
abbrev pub Solves : List Node → Asked → Option ℕ → ℕ → List ℕ → Type 0
Solves game asked None budget output = SolvesWhole game asked budget output
Solves game asked (Some identifier) budget output = SolvesPart game asked identifier budget output

-- the answer of `solve`: the text is that of a game, and a right answer is written
pub record IsSolveAnswer (text : List ℕ) (asked : Asked) (from : Option ℕ) (budget : ℕ)
    (output : List ℕ) : Type 0 where
  pub game : List Node
  pub read : IsGameText text game
  pub solved : Solves game asked from budget output
