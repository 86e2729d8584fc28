-- `parts_are_games`: the part of a node of a game is a game.
use Rattle.omega_game_reaching.proofs.PartGames.{part_is_game}
use Rattle.omega_game_reaching.proofs.laws.parts_are_games.Goals as goal

pub returns : goal.returns
returns c = λ nodes part v game node is. part_is_game nodes part v is.0 game is.1 node
