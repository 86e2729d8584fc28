-- kept edges are walks of the game, which are won
use Rattle.omega_synth_rounds.proofs.Winning.{chosen_questions_win}
use Rattle.omega_synth_rounds.proofs.laws.chosen_questions_win.Goals as goal

pub returns : goal.returns
returns c = chosen_questions_win c.specifications_have_one_game.ensures
