-- who wins the start's node
use Rattle.omega_synth_realize.proofs.Winners.{start_decides}
use Rattle.omega_synth_realize.proofs.laws.games_decide.Goals as goal

pub returns : goal.returns
returns c =
    start_decides c.choices_are_entries.ensures c.chosen_answers_win.ensures c.chosen_questions_win.ensures c.answerings_are_controllers.ensures
    c.askings_are_counter_strategies.ensures c.controllers_exclude_counter_strategies.ensures c.regions_cover.ensures c.regions_of_parts.ensures c.parts_keep_nodes.ensures
