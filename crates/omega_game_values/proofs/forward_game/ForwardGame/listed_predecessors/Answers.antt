-- `ForwardGame::listed_predecessors`: the predecessors of each place.
use Rattle.std.proofs.Common.{◌≡◌, ℕ, List, length, map, arith, subst, ◌∙◌}
use Rattle.std.proofs.lemmas.Result.{IfOk-weaker}
use Rattle.omega_game_values.specs.Game.{Node}
use Rattle.omega_game_values.specs.private.layout.Columns.{Columns, AreEven, ArePredecessors, columns_of, nodes_of}
use Rattle.omega_game_values.specs.private.layout.Predecessors.{predecessors_in}
use Rattle.std.specs.List.{range_with_len}
use Rattle.omega_game_values.proofs.layout.Columns.{edge_count-nodes_of, length-nodes_of}
use Rattle.omega_game_values.proofs.layout.StoredPredecessors.{predecessors_are_counted, targets_within}
use Rattle.omega_game_values.proofs.forward_game.ForwardGame.listed_predecessors.Goals as goal

pub predecessors_of-requires-clause-few : goal.predecessors_of-requires-clause-few
predecessors_of-requires-clause-few c =
    omega (arith, c.self.invariant.even.successors_even, length-nodes_of (columns_of c.self.inside.listed.keys c.self.inside.priorities.items c.self.inside.owners.items c.self.inside.successors c.self.inside.quoted), c.self.invariant.limits.few_nodes)

pub predecessors_of-requires-clause-few_edges : goal.predecessors_of-requires-clause-few_edges
predecessors_of-requires-clause-few_edges c =
    omega (arith, edge_count-nodes_of (columns_of c.self.inside.listed.keys c.self.inside.priorities.items c.self.inside.owners.items c.self.inside.successors c.self.inside.quoted) c.self.invariant.even, c.self.invariant.limits.few_edges)

pub predecessors_of-requires-clause-within : goal.predecessors_of-requires-clause-within
predecessors_of-requires-clause-within c = targets_within (columns_of c.self.inside.listed.keys c.self.inside.priorities.items c.self.inside.owners.items c.self.inside.successors c.self.inside.quoted) c.self.invariant.even c.self.invariant.game

-- the predecessors by counting are those of the nodes that the columns stand for
listed : (columns : Columns) (nodes : List Node) → AreEven columns → nodes_of columns ≡ nodes → (lists : List (List ℕ))
    → lists ≡ map (predecessors_in columns.successors) (range_with_len 0 (length columns.successors)) → ArePredecessors nodes lists
listed columns nodes even is lists counted =
    subst (λ (nodes : List Node). ArePredecessors nodes lists) is (counted ∙ predecessors_are_counted columns even)

pub returns : goal.returns
returns c =
    IfOk-weaker c.predecessors_of.result _ _
    (listed (columns_of c.self.inside.listed.keys c.self.inside.priorities.items c.self.inside.owners.items c.self.inside.successors c.self.inside.quoted) c.args.self.now c.self.invariant.even c.self.view_is) c.predecessors_of.ensures
