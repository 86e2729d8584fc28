-- The beginning of lines about a player.
use Rattle.std.specs.Prelude.{◌++◌, List, ℕ, codes, decimal}
use Rattle.omega_game_values.specs.declared.player.Player.{Player}
use Rattle.omega_game_values.specs.Player.{player_number}

-- the beginning of a line about a player
abbrev pub player_text : Player → List ℕ
player_text player = codes "player " ++ decimal (player_number player)
