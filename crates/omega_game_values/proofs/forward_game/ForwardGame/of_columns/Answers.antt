-- `ForwardGame::assembled`: the forward game of these columns, with its priorities counted.
use Rattle.std.proofs.Common.{length, arith, ap, refl, ◌∙◌}
use Rattle.omega_game_values.specs.Bound.{priority_counts}
use Rattle.omega_game_values.specs.private.layout.Columns.{columns_of}
use Rattle.omega_game_values.proofs.layout.Columns.{length-nodes_of}
use Rattle.omega_game_values.proofs.forward_game.ForwardGame.of_columns.Goals as goal

pub counts_of-requires : goal.counts_of-requires
counts_of-requires c = omega (arith, ap length c.as_slice.ensures.value, c.requires.even.priorities_even, length-nodes_of (columns_of c.args.listed.keys c.args.priorities.items c.args.owners.items c.args.successors c.args.quoted), c.requires.limits.few_nodes)

pub invariant_of-result : goal.invariant_of-result
invariant_of-result c = record {
  even = c.requires.even;
  game = c.requires.game;
  limits = c.requires.limits;
  counted = c.in_ok-priority_counts.ensures ∙ ap priority_counts c.as_slice.ensures.value;
}

pub returns : goal.returns
returns c = refl
