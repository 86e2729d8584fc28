-- edges that leave a state have places
use Rattle.omega_synth_game.proofs.Gathering.{leave_below}
use Rattle.omega_synth_game.proofs.states.asked_in.Goals as goal

pub questions_of-requires-clause-numbers : goal.questions_of-requires-clause-numbers
questions_of-requires-clause-numbers c =
    leave_below c.args.automaton.now c.args.places.now c.requires.leave.0 c.args.numbers.now c.requires.places c.requires.leave.1
