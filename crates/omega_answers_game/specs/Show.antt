-- The answer of `show` for a game text: the size of the game, and the bounds on lifts.
use Rattle.std.specs.Prelude.{◌≡◌, ◌++◌, ◌^◌, List, ℕ, codes, decimal, length, nat_lt, if◌then◌else◌}
use Rattle.omega_game_values.specs.declared.player.Player.{Player}
use Rattle.omega_game_values.specs.declared.player.Player.TheVariants.{One, Zero}
use Rattle.omega_game_values.specs.Bound.{bound_of}
use Rattle.omega_game_values.specs.Game.{Node, successor_count, priorities, greatest_identifier}
use Rattle.omega_pg.specs.game.Text.{IsGameText}
use Rattle.omega_answers_game.specs.PlayerText.{player_text}

-- the text of a bound: in decimal, or that it takes more than 128 bits
abbrev pub bound_text : ℕ → List ℕ
bound_text bound =
    if nat_lt bound (2 ^ 128) then codes "bound " ++ decimal bound else codes "bound over 128 bits"

-- the line of a player: the most lifts that solving the game for the player can take
abbrev pub bound_line : Player → List Node → List ℕ
bound_line player nodes =
    player_text player ++ codes " " ++ bound_text (bound_of player (priorities nodes)) ++ codes "\n"

-- the line of the game: its nodes, its listed successors, and its greatest identifier
abbrev pub size_line : List Node → List ℕ
size_line nodes = codes "game nodes " ++ decimal (length nodes) ++ codes " edges "
    ++ decimal (successor_count nodes)
    ++ codes " greatest " ++ decimal (greatest_identifier nodes) ++ codes "\n"

-- the output for a game
abbrev pub description : List Node → List ℕ
description nodes = size_line nodes ++ bound_line Zero nodes ++ bound_line One nodes

-- the answer of `show`: the text is that of a game, and its description is written
pub record IsShowAnswer (text output : List ℕ) : Type 0 where
  pub game : List Node
  pub read : IsGameText text game
  pub written : output ≡ description game
