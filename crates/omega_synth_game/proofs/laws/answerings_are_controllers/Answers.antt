-- walks of the automaton are walks of its rounds
use Rattle.omega_synth_game.proofs.Meaning.{answerings_are_controllers}
use Rattle.omega_synth_game.proofs.laws.answerings_are_controllers.Goals as goal

pub returns : goal.returns
returns c = answerings_are_controllers c.parity_is_priority.ensures
