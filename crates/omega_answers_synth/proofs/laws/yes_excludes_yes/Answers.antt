use Rattle.omega_answers_synth.proofs.Excluding.{yes_excludes_yes}
use Rattle.omega_answers_synth.proofs.laws.yes_excludes_yes.Goals as goal

pub returns : goal.returns
returns c =
    yes_excludes_yes c.automata_are_one.ensures c.meanings_are_automata.ensures c.judgements_are_exact.ensures c.counter_judgements_are_exact.ensures
    c.controllers_exclude_strategies.ensures
