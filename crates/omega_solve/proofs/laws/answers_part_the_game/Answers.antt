-- Two answers part the game, from the laws of lifting and of regions.
use Rattle.omega_solve.proofs.answers.Parting.{parted}
use Rattle.omega_solve.proofs.laws.answers_part_the_game.Goals as goal

pub returns : goal.returns
returns c =
    parted c.zero_tables_are_tables.ensures c.runs_keep_tables.ensures c.regions_stay_below_top.ensures
    c.won_places_are_in_regions.ensures c.regions_cover.ensures c.regions_are_apart.ensures
