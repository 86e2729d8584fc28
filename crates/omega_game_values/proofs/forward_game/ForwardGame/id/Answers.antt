-- `ForwardGame::id`: the identifier of the node at a place.
use Rattle.std.proofs.Common.{length, get_or, arith, ap, ◌∙◌}
use Rattle.omega_game_values.specs.private.layout.Columns.{identifiers_of}
use Rattle.omega_game_values.proofs.layout.Columns.{place_within, identifier_is}
use Rattle.omega_game_values.proofs.forward_game.ForwardGame.id.Goals as goal

pub returns : goal.returns
returns c = identifier_is _ _ c.args.place c.identifier_at.result c.self.view_is c.requires
    (c.identifier_at.ensures (length c.self.inside.priorities.items) (omega (arith, place_within _ _ c.args.place c.self.view_is c.requires, c.self.invariant.even.priorities_even))
    ∙ ap (λ listed. get_or (identifiers_of (length c.self.inside.priorities.items) listed) c.args.place c.args.place) c.as_slice.ensures.keys)
