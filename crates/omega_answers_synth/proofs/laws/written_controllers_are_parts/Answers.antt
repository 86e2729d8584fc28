use Rattle.omega_answers_synth.proofs.Parts.{written_part}
use Rattle.omega_answers_synth.proofs.laws.written_controllers_are_parts.Goals as goal

pub returns : goal.returns
returns c a controlled kept reached automaton tells = written_part a automaton controlled kept reached tells
