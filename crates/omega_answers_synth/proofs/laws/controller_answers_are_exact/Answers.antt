use Rattle.omega_answers_synth.proofs.Exact.{answers_are_exact}
use Rattle.omega_answers_synth.proofs.laws.controller_answers_are_exact.Goals as goal

pub returns : goal.returns
returns c = answers_are_exact c.automata_are_one.ensures c.judgements_are_exact.ensures
