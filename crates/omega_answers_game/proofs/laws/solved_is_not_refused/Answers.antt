-- `solved_is_not_refused`: what is written is the text of an exact solution of the game that is judged.
use Rattle.omega_answers_game.proofs.Accepting.{exact-not_refused}
use Rattle.omega_answers_game.proofs.Solved.{solved-judged}
use Rattle.omega_answers_game.proofs.laws.solved_is_not_refused.Goals as goal

pub returns : goal.returns
returns c text from solved refusal is_solved refused =
    let judged = solved-judged text from solved is_solved in
    exact-not_refused text from judged.0 solved refusal c.games_of_texts_are_one.ensures c.games_are_not_refused.ensures
    c.parts_are_games.ensures c.parts_keep_nodes.ensures c.written_solutions_are_read.ensures
    c.solutions_are_not_refused.ensures judged.1 judged.2 is_solved.short refused
