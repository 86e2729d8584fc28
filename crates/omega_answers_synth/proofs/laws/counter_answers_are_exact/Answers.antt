use Rattle.omega_answers_synth.proofs.Exact.{counter_answers_are_exact}
use Rattle.omega_answers_synth.proofs.laws.counter_answers_are_exact.Goals as goal

pub returns : goal.returns
returns c = counter_answers_are_exact c.automata_are_one.ensures c.counter_judgements_are_exact.ensures
