-- `ForwardGame::len`: the number of nodes, at least 1.
use Rattle.std.proofs.Common.{◌≡◌, length, arith, sym, ◌∙◌}
use Rattle.omega_game_values.proofs.layout.Columns.{length_is}
use Rattle.omega_game_values.proofs.forward_game.ForwardGame.len.Goals as goal

pub returns-clause-count : goal.returns-clause-count
returns-clause-count c = let count : c.len.result ≡ length c.self.inside.priorities.items = omega (arith, c.len.ensures) in
    count ∙ c.self.invariant.even.priorities_even ∙ sym (length_is _ _ c.self.view_is)
