-- an answer can be taken at some letter
use Rattle.omega_synth_game.proofs.Meaning.{met_answers_are_met}
use Rattle.omega_synth_game.proofs.laws.met_answers_are_met.Goals as goal

pub returns : goal.returns
returns c = met_answers_are_met c.parity_is_priority.ensures
