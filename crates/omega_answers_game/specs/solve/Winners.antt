-- The winners of nodes, given the nodes that player 0 wins.
use Rattle.std.specs.Prelude.{Bool, true, false, List, map}
use Rattle.omega_game_values.specs.declared.player.Player.{Player}
use Rattle.omega_game_values.specs.declared.player.Player.TheVariants.{One, Zero}

-- the winner of a node, which player 0 wins or does not
abbrev pub winner_of : Bool → Player
winner_of true = Zero
winner_of false = One

-- the winners, if these are the places that player 0 wins
abbrev pub winners_of : List Bool → List Player
winners_of won = map winner_of won
