-- the text has one automaton, whose item states one list of propositions
use Rattle.omega_answers_synth.proofs.SizeRefused.{size_refusals_exclude_answers}
use Rattle.omega_answers_synth.proofs.laws.size_refusals_exclude_answers.Goals as goal

pub returns : goal.returns
returns c =
    size_refusals_exclude_answers c.automata_are_one.ensures c.automata_are_unrefused.ensures c.refusals_are_one.ensures
    c.large_games_are_not_decided.ensures
