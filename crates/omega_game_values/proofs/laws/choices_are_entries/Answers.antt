-- `choices_are_entries`: what a strategy chooses at a place is its choice there.
use Rattle.omega_game_values.proofs.walks.Choosing.{choice_chosen, chosen_choice}
use Rattle.omega_game_values.proofs.laws.choices_are_entries.Goals as goal

pub returns : goal.returns
returns c choices v w = (choice_chosen choices v w, chosen_choice choices v w)
