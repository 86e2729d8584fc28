-- who wins the game of its rounds
use Rattle.omega_synth_realize.proofs.Winners.{automaton_decided}
use Rattle.omega_synth_realize.proofs.laws.automata_are_decided.Goals as goal

pub returns : goal.returns
returns c = λ a controlled.
    automaton_decided c.choices_are_entries.ensures c.chosen_answers_win.ensures c.chosen_questions_win.ensures c.answerings_are_controllers.ensures
    c.askings_are_counter_strategies.ensures c.controllers_exclude_counter_strategies.ensures c.regions_cover.ensures a controlled
    c.no_start_is_refused.ensures
