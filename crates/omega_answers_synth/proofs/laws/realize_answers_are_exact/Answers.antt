use Rattle.omega_answers_synth.proofs.WhoWins.{realize_answers_are_exact}
use Rattle.omega_answers_synth.proofs.laws.realize_answers_are_exact.Goals as goal

pub returns : goal.returns
returns c =
    realize_answers_are_exact c.automata_are_one.ensures c.meanings_are_automata.ensures c.controllers_realize.ensures c.counter_strategies_beat.ensures c.beating_excludes_realizing.ensures
