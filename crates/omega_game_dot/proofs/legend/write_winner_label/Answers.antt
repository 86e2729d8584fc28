-- `write_winner_label`: the number of the player is between two texts.
use Rattle.std.proofs.Common.{◌∙◌}
use Rattle.omega_game_dot.proofs.Texts.{number_between}
use Rattle.omega_game_dot.proofs.legend.write_winner_label.Goals as goal

pub returns-clause-ok : goal.returns-clause-ok
returns-clause-ok c =
    number_between _ _ _ _ _ _ _ _ (c.from.ensures ∙ c.number.ensures) c.in_ok-extend_from_slice.ensures.items c.in_ok-write_number.ensures.ok
    c.in_ok-extend_from_slice-2.ensures.items
