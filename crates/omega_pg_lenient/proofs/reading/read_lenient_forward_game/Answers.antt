-- `read_lenient_forward_game`: what was kept and built is the game of the text, or its refusal.
use Rattle.std.proofs.Common.{◌∙◌}
use Rattle.omega_pg_lenient.proofs.grammar.Kept.{game_built_all, read_specified, refused_built_all}
use Rattle.omega_pg_lenient.proofs.reading.read_lenient_forward_game.Goals as goal

pub game_of_specs-requires : goal.game_of_specs-requires
game_of_specs-requires c = read_specified _ _ _ c.in_ok-reader.ensures.read c.in_ok-specs.ensures.specs

pub returns-clause-game : goal.returns-clause-game
returns-clause-game c =
    game_built_all _ _ _ _ _ c.in_ok-plain.ensures.short (c.as_slice.ensures.value ∙ c.in_ok-plain.ensures.plain) c.in_ok-reader.ensures.read
    c.in_ok-specs.ensures.specs c.game_of_specs.ensures.game c.game_of_specs.ensures.limits

pub returns-clause-refused : goal.returns-clause-refused
returns-clause-refused c =
    refused_built_all _ _ _ _ _ c.in_ok-plain.ensures.short (c.as_slice.ensures.value ∙ c.in_ok-plain.ensures.plain) c.in_ok-reader.ensures.read
    c.in_ok-specs.ensures.specs c.game_of_specs.ensures.refused
