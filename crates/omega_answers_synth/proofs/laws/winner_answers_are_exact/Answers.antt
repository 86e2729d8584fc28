use Rattle.omega_answers_synth.proofs.WhoWins.{winner_answers_are_exact}
use Rattle.omega_answers_synth.proofs.laws.winner_answers_are_exact.Goals as goal

pub returns : goal.returns
returns c =
    winner_answers_are_exact c.automata_are_one.ensures c.meanings_are_automata.ensures c.controllers_realize.ensures c.counter_strategies_beat.ensures c.beating_excludes_realizing.ensures
