-- `turned_texts_are_read`: what is written is the canonical text of a game within the limits.
use Rattle.omega_answers_game.proofs.TurnedTexts.{turned-read}
use Rattle.omega_answers_game.proofs.least_priority_laws.turned_texts_are_read.Goals as goal

pub returns : goal.returns
returns c text from game output judged answer short =
    turned-read text from game output c.games_of_texts_are_one.ensures c.parts_are_games.ensures c.parts_keep_nodes.ensures
    c.canonical_texts_are_read.ensures c.turned_games_are_games.ensures c.turned_games_keep_limits.ensures judged answer short
