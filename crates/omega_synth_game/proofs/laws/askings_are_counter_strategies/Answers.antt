-- walks of the automaton are walks of its rounds
use Rattle.omega_synth_game.proofs.Meaning.{askings_are_counter_strategies}
use Rattle.omega_synth_game.proofs.laws.askings_are_counter_strategies.Goals as goal

pub returns : goal.returns
returns c = askings_are_counter_strategies c.parity_is_priority.ensures
