use Rattle.omega_answers_synth.proofs.Excluding.{yes_excludes_unrealizable}
use Rattle.omega_answers_synth.proofs.laws.yes_excludes_unrealizable.Goals as goal

pub returns : goal.returns
returns c = yes_excludes_unrealizable c.automata_are_one.ensures c.meanings_are_automata.ensures c.judgements_are_exact.ensures c.controllers_for_exclude_counter_strategies.ensures
