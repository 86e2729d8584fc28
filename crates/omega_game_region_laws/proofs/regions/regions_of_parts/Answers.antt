-- strategies are carried over between the places of the part and the nodes that are there
use Rattle.omega_game_region_laws.proofs.Parts.{regions_of_part}
use Rattle.omega_game_region_laws.proofs.regions.regions_of_parts.Goals as goal

pub returns : goal.returns
returns c nodes part player v kept k game is_part below =
    regions_of_part nodes part kept (c.parts_keep_nodes.ensures nodes part v kept game is_part) c.choices_are_entries.ensures player k below
