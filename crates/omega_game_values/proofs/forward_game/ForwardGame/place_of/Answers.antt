-- `ForwardGame::place_of`: the place of the node with an identifier.
use Rattle.std.proofs.Common.{◌≡◌, ◌==◌, length, arith, ap, sym, ◌∙◌, inl, inr}
use Rattle.omega_game_values.proofs.layout.Columns.{length_is, length-listed, identifiers_are}
use Rattle.std.proofs.lemmas.Bool.{cases_lt}
use Rattle.std.specs.List.{position}
use Rattle.omega_game_values.specs.private.layout.Columns.{identifiers_of}
use Rattle.omega_game_values.proofs.forward_game.ForwardGame.place_of.Goals as goal

pub place_among-requires : goal.place_among-requires
place_among-requires c = elim (cases_lt 0 (length c.self.inside.listed.keys)) [
  | inl l ↦ omega (arith, length-listed (length c.self.inside.priorities.items) c.self.inside.listed.keys l, length_is _ _ c.self.view_is, c.self.invariant.limits.few_nodes, ap length c.self.view_is)
  | inr l ↦ omega arith
]

pub returns : goal.returns
returns c =
    let count : c.len.result ≡ length c.self.inside.priorities.items = omega (arith, c.len.ensures) in
    c.place_among.ensures
    ∙ ap (λ n. position (λ x. x == c.args.id) (identifiers_of n c.self.inside.listed.keys)) count
    ∙ ap (position (λ x. x == c.args.id)) (sym (identifiers_are _ _ c.self.view_is))
