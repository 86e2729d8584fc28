-- `components_are_unique`: the leaders are the same.
use Rattle.omega_answers_game.proofs.Unique.{unique}
use Rattle.omega_answers_game.proofs.counting.components_are_unique.Goals as goal

pub returns : goal.returns
returns c nodes count largest count' largest' one other = unique nodes count largest count' largest' one other
