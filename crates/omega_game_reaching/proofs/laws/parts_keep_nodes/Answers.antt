-- `parts_keep_nodes`: a part keeps the nodes that it has: their owners, their priorities and their edges.
use Rattle.omega_game_reaching.proofs.Kept.{keeps_nodes}
use Rattle.omega_game_reaching.proofs.laws.parts_keep_nodes.Goals as goal

pub returns : goal.returns
returns c nodes part v kept game is_part = keeps_nodes nodes part v kept game is_part
