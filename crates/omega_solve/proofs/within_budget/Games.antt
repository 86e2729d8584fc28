-- Reordering games: reordering back, their edges, and their priorities.
use Rattle.std.proofs.Common.{◌≡◌, ℕ, ◌<◌, inl, inr, List, Contains, length, map, get_or, sym, ap, ap₂, subst, ◌*◌, nat_lt, Err, IfErr, Ok, Result, ◌∙◌, arith}
use Rattle.std.proofs.lemmas.List.{get_or-map, get_or_past, length-map}
use Rattle.std.proofs.lemmas.Bool.{cases_lt}
use Rattle.omega_game_values.specs.declared.player.Player.{Player}
use Rattle.omega_game_values.specs.Bound.{bound_of}
use Rattle.omega_game_values.specs.Game.{Node, HasEdge, no_node, node_at, priorities, successors_at}
use Rattle.omega_game_values.proofs.elements.Membership.{Contains-nothing, Contains-under, map-Contains, map-map, map_same}
use Rattle.omega_text.specs.declared.refusal.Refusal.{Refusal}
use Rattle.omega_text.specs.declared.refusal.Refusal.TheVariants.{Automaton, Circuit, Game, Io, Memory, Task, Text}
use Rattle.omega_measure.specs.Limits.{most_cells}
use Rattle.omega_measure.specs.Table.{IsPrepareRefusal, is_too_wide}
use Rattle.omega_solve.specs.budget.Reordering.{IsMoved, IsReordering}
use Rattle.omega_solve.proofs.within_budget.Priorities.{AreAlike, alike_reordered, bounds_alike}

-- the places of successors are places
abbrev pub IsClosed : List Node → Type 0
IsClosed nodes = (v w : ℕ) → v < length nodes → HasEdge nodes v w → w < length nodes

-- an edge leads from a node
pub edge_from : (nodes : List Node) (v w : ℕ) → HasEdge nodes v w → v < length nodes
edge_from nodes v w edge = elim (cases_lt v (length nodes)) [
  | inl lt ↦ lt
  | inr past ↦
      absurd (Contains-nothing w (subst (λ (node : Node). Contains node.successors w) (get_or_past nodes v no_node (omega (arith, past))) edge))
]

module _ (nodes other : List Node) (positions places : List ℕ) (reordering : IsReordering nodes other positions places) where
  -- a place has a position that is a place of the reordered game, and leads back
  pub position_below : (v : ℕ) → v < length nodes → get_or positions v 0 < length other
  position_below v lt = omega (arith, (reordering.inverse.positioned v (omega (arith, reordering.positioned))).0, reordering.placed, reordering.entries)

  pub place_of_position : (v : ℕ) → v < length nodes → get_or places (get_or positions v 0) 0 ≡ v
  place_of_position v lt = (reordering.inverse.positioned v (omega (arith, reordering.positioned))).1

  pub place_below : (r : ℕ) → r < length other → get_or places r 0 < length nodes
  place_below r lt = omega (arith, (reordering.inverse.placed r (omega (arith, reordering.placed, reordering.entries))).0, reordering.positioned)

  pub position_of_place : (r : ℕ) → r < length other → get_or positions (get_or places r 0) 0 ≡ r
  position_of_place r lt = (reordering.inverse.placed r (omega (arith, reordering.placed, reordering.entries))).1

  -- the nodes of the reordered game, by their positions
  pub moved_to : (r : ℕ) → r < length other → IsMoved positions (node_at nodes (get_or places r 0)) (node_at other r)
  moved_to r lt =
      subst (λ (i : ℕ). IsMoved positions (node_at nodes (get_or places r 0)) (node_at other i)) (position_of_place r lt)
      (reordering.moved (get_or places r 0) (place_below r lt))

  priority_of : (v : ℕ) → v < length nodes → get_or (priorities other) (get_or positions v 0) 0 ≡ get_or (priorities nodes) v 0
  priority_of v lt =
      get_or-map (λ (node : Node). node.priority) other (get_or positions v 0) no_node 0 (position_below v lt)
      ∙ (reordering.moved v lt).priority
      ∙ sym (get_or-map (λ (node : Node). node.priority) nodes v no_node 0 lt)

  pub alike : AreAlike (priorities nodes) (priorities other)
  alike =
      let size = length-map nodes (λ (node : Node). node.priority) in
      let others = length-map other (λ (node : Node). node.priority) in
      alike_reordered (priorities nodes) (priorities other) positions places reordering.inverse (omega (arith, size, reordering.positioned))
      (omega (arith, size, reordering.placed)) (omega (arith, size, others, reordering.entries))
      (λ v lt. priority_of v (omega (arith, lt, size)))

  pub bound_reordered : (player : Player) → bound_of player (priorities other) ≡ bound_of player (priorities nodes)
  bound_reordered player =
      let size = length-map nodes (λ (node : Node). node.priority) in
      let others = length-map other (λ (node : Node). node.priority) in
      sym (bounds_alike player (priorities nodes) (priorities other) (omega (arith, size, others, reordering.entries)) alike)

  -- an edge leads to the position
  pub edge_there : (v w : ℕ) → v < length nodes → HasEdge nodes v w → HasEdge other (get_or positions v 0) (get_or positions w 0)
  edge_there v w lt edge =
      subst (λ (ws : List ℕ). Contains ws (get_or positions w 0)) (sym (reordering.moved v lt).successors)
      (Contains-under (λ u. get_or positions u 0) (successors_at nodes v) w edge)

  -- each edge is one that leads so
  pub edge_here : (v u : ℕ) → v < length nodes → HasEdge other (get_or positions v 0) u → (w : ℕ) × HasEdge nodes v w × (u ≡ get_or positions w 0)
  edge_here v u lt edge =
      let found = map-Contains (λ w. get_or positions w 0) (successors_at nodes v) u
      (subst (λ (ws : List ℕ). Contains ws u) (reordering.moved v lt).successors edge) in
      (found.0, found.1, found.2)

  -- reordering back
  pub back_reordering : IsClosed nodes → IsReordering other nodes places positions
  back_reordering closed = record {
    inverse = record { positioned = reordering.inverse.placed; placed = reordering.inverse.positioned };
    positioned = reordering.placed ∙ sym reordering.entries;
    placed = reordering.positioned ∙ sym reordering.entries;
    entries = sym reordering.entries;
    moved = λ r lt. moved_back r lt;
  }
    where
      moved_back : (r : ℕ) → r < length other → IsMoved places (node_at other r) (node_at nodes (get_or places r 0))
      moved_back r lt =
          let moved = moved_to r lt in
          let v = get_or places r 0 in
          record {
            priority = sym moved.priority;
            owner = sym moved.owner;
            successors =
                sym (ap (map (λ u. get_or places u 0)) moved.successors
                ∙ map-map (λ u. get_or places u 0) (λ w. get_or positions w 0) (successors_at nodes v)
                ∙ map_same (λ w. get_or places (get_or positions w 0) 0) (successors_at nodes v) (λ w edge. place_of_position w (closed v w (place_below r lt) edge)));
          }

  pub back_closed : IsClosed nodes → IsClosed other
  back_closed closed r u lt edge =
      let found = edge_here (get_or places r 0) u (place_below r lt)
      (subst (λ (i : ℕ). HasEdge other i u) (sym (position_of_place r lt)) edge) in
      subst (λ (i : ℕ). i < length other) (sym found.2) (position_below found.0 (closed (get_or places r 0) found.0 (place_below r lt) found.1))

-- a table is too wide for one exactly if it is for the other
pub widths_same : (nodes other : List Node) (positions places : List ℕ) → IsReordering nodes other positions places → (player : Player)
    → is_too_wide player (priorities other) ≡ is_too_wide player (priorities nodes)
widths_same nodes other positions places reordering player =
    let sizes : length (priorities other) ≡ length (priorities nodes) =
    omega (arith, length-map nodes (λ (node : Node). node.priority), length-map other (λ (node : Node). node.priority), reordering.entries) in
    ap₂ (λ (count width : ℕ). nat_lt most_cells (count * width)) sizes
    (ap (λ (qs : List ℕ). length qs) (sym ((alike nodes other positions places reordering).losing player)))

-- so that what refuses a table for one refuses it for the other
pub refusals_same : {A : Type 0} (nodes other : List Node) (positions places : List ℕ) → IsReordering nodes other positions places → (player : Player) (result : Result A Refusal)
    → IfErr result (IsPrepareRefusal player (priorities other)) → IfErr result (IsPrepareRefusal player (priorities nodes))
refusals_same nodes other positions places reordering player (Ok made) refused = tt
refusals_same nodes other positions places reordering player (Err (Task fault)) refused = (refused.0, sym (widths_same nodes other positions places reordering player) ∙ refused.1)
refusals_same nodes other positions places reordering player (Err Memory) refused = tt
refusals_same nodes other positions places reordering player (Err (Text fault)) refused = refused
refusals_same nodes other positions places reordering player (Err (Game fault)) refused = refused
refusals_same nodes other positions places reordering player (Err (Automaton fault)) refused = refused
refusals_same nodes other positions places reordering player (Err (Circuit fault)) refused = refused
refusals_same nodes other positions places reordering player (Err Io) refused = refused
