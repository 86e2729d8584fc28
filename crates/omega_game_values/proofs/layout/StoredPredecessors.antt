-- The predecessors by counting are those of the nodes.
use Rattle.std.proofs.Common.{◌≡◌, ℕ, ◌<◌, inl, inr, ◌==◌, List, [], length, map, All, Contains, get_or, sym, ◌∙◌, ap, subst, arith}
use Rattle.std.proofs.Math.Path.{fun_ext}
use Rattle.std.specs.Prelude.{replicate, count_by}
use Rattle.std.specs.List.{flat_map, range_with_len}
use Rattle.std.proofs.lemmas.Bool.{cases_lt}
use Rattle.std.proofs.lemmas.List.{get_or_past, get_or_default}
use Rattle.std.proofs.lemmas.List.Elements.{Contains-get_or}
use Rattle.std.proofs.lemmas.List.FromFn.{get_or-map-range_with_len}
use Rattle.omega_game_values.specs.private.layout.Predecessors.{predecessors_in}
use Rattle.omega_game_values.specs.Game.{Node, no_node, successors_at, predecessors_of, IsGame, HasEdge}
use Rattle.omega_game_values.specs.private.layout.Columns.{Columns, AreEven, ArePredecessors, nodes_of, node_in}
use Rattle.omega_game_values.proofs.layout.Columns.{length-nodes_of, node_at-nodes_of}

-- the successors at a place are those of the column, also past the end
successors_of_column : (columns : Columns) → AreEven columns → (v : ℕ) → successors_at (nodes_of columns) v ≡ get_or columns.successors v []
unfolding node_in
successors_of_column columns even v = elim (cases_lt v (length columns.identifiers)) [
  | inl l ↦ ap (λ (node : Node). node.successors) (node_at-nodes_of columns v l)
  | inr l ↦ ap (λ (node : Node). node.successors) (get_or_past (nodes_of columns) v no_node (omega (arith, length-nodes_of columns)))
      ∙ sym (get_or_past columns.successors v [] (omega (arith, even.successors_even)))
]

-- the places with an edge to a place are the indices of the lists in which it stands
pub predecessors_are_counted : (columns : Columns) → AreEven columns
    → ArePredecessors (nodes_of columns) (map (predecessors_in columns.successors) (range_with_len 0 (length columns.successors)))
unfolding predecessors_in
predecessors_are_counted columns even =
    let size : length columns.successors ≡ length (nodes_of columns) = even.successors_even ∙ sym (length-nodes_of columns) in
    let each : (w : ℕ) → predecessors_in columns.successors w ≡ predecessors_of (nodes_of columns) w =
    λ w. ap (λ n. flat_map (λ v. replicate (count_by (λ u. u == w) (get_or columns.successors v [])) v) (range_with_len 0 n)) size
    ∙ ap (λ (f : ℕ → List ℕ). flat_map f (range_with_len 0 (length (nodes_of columns)))) (fun_ext (λ v. ap (λ (xs : List ℕ). replicate (count_by (λ u. u == w) xs) v) (sym (successors_of_column columns even v)))) in
    ap (λ (f : ℕ → List ℕ). map f (range_with_len 0 (length columns.successors))) (fun_ext each)
    ∙ ap (λ n. map (predecessors_of (nodes_of columns)) (range_with_len 0 n)) size

-- what is read from the predecessors that are kept is the place's
pub predecessors_at : (kept nodes : List Node) (lists : List (List ℕ)) (v : ℕ) (xs : List ℕ) → kept ≡ nodes → v < length nodes
    → ArePredecessors kept lists → xs ≡ get_or lists v [] → xs ≡ predecessors_of nodes v
predecessors_at kept nodes lists v xs is h all read =
    read ∙ ap (λ lists. get_or lists v []) all
    ∙ get_or-map-range_with_len (predecessors_of kept) 0 (length kept) v v [] (omega (arith, ap length is)) (omega arith)
    ∙ ap (λ (list : List Node). predecessors_of list v) is

-- the places listed in the column are places of the game
pub targets_within : (columns : Columns) → AreEven columns → IsGame (nodes_of columns) → All (λ list. All (λ w. w < length columns.successors) list) columns.successors
targets_within columns even game = λ v d h k e l.
    let at : get_or columns.successors v d ≡ successors_at (nodes_of columns) v = get_or_default columns.successors v d [] h ∙ sym (successors_of_column columns even v) in
    let edge : HasEdge (nodes_of columns) v (get_or (get_or columns.successors v d) k e) =
    subst (λ (xs : List ℕ). Contains xs (get_or (get_or columns.successors v d) k e)) at (Contains-get_or (get_or columns.successors v d) k e l) in
    omega (arith, game.closed v (get_or (get_or columns.successors v d) k e) edge, length-nodes_of columns, even.successors_even)
