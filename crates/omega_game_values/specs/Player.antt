-- The two players, and which priorities lose for each.
use Rattle.std.specs.Prelude.{ℕ, ◌%◌, ◌==◌, Bool}
use Rattle.omega_game_values.specs.declared.player.Player.{Player}
use Rattle.omega_game_values.specs.declared.player.Player.TheVariants.{Zero, One}

-- the player's number in texts
abbrev pub player_number : Player → ℕ
player_number Zero = 0
player_number One = 1

-- the player against whom a player plays
abbrev pub opponent_of : Player → Player
opponent_of Zero = One
opponent_of One = Zero

-- whether a priority loses for a player: the odd ones for player 0, the even ones for player 1
abbrev pub loses : Player → ℕ → Bool
loses Zero q = q % 2 == 1
loses One q = q % 2 == 0
