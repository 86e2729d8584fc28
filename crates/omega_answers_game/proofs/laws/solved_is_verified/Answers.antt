-- `solved_is_verified`: what is written is the text of an exact solution of the game that is judged.
use Rattle.omega_answers_game.proofs.Accepting.{exact-verified}
use Rattle.omega_answers_game.proofs.Solved.{solved-judged}
use Rattle.omega_answers_game.proofs.laws.solved_is_verified.Goals as goal

pub returns : goal.returns
returns c text from solved explain exit output is_solved answer =
    let judged = solved-judged text from solved is_solved in
    exact-verified text from judged.0 solved explain exit output c.games_of_texts_are_one.ensures c.parts_are_games.ensures
    c.parts_keep_nodes.ensures c.written_solutions_are_read.ensures c.solutions_of_texts_are_one.ensures judged.1 judged.2
    is_solved.short answer
