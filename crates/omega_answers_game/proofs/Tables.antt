-- The edges of a game and those of its table are the same.
use Rattle.std.proofs.Common.{◌≡◌, ℕ, ◌<◌, inl, inr, List, [], ◌∷◌, Contains, length, map, sym, ap, subst, ◌∙◌}
use Rattle.std.specs.List.{flat_map, range_with_len}
use Rattle.std.proofs.lemmas.Bool.{cases_lt}
use Rattle.std.proofs.lemmas.List.{get_or_default, get_or_past}
use Rattle.std.proofs.lemmas.List.Elements.{Contains-append_cases, Contains-append_left, Contains-append_right}
use Rattle.omega_graph.specs.declared.edge.Edge.{Edge}
use Rattle.omega_graph.specs.Graph.{edge_of, ends_at}
use Rattle.omega_game_values.specs.Game.{HasEdge, Node, no_node, successors_at}
use Rattle.omega_game_values.proofs.elements.Membership.{Contains-cases, Contains-here, Contains-nothing, Contains-there}
use Rattle.omega_answers_game.specs.private.Table.{edges_from, shape_of}
use Rattle.omega_answers_game.proofs.Ranges.{range_has}

-- an element of a piece is one of the joined pieces
joined_has : {X Y : Type 0} (f : X → List Y) (xs : List X) (x : X) (y : Y) → Contains xs x → Contains (f x) y → Contains (flat_map f xs) y
joined_has f [] x y has inside = absurd (Contains-nothing x has)
joined_has f (z ∷ zs) x y has inside = elim (Contains-cases z x zs has) [
  | inl same ↦ Contains-append_left (f z) (flat_map f zs) y (subst (λ w. Contains (f w) y) (sym same) inside)
  | inr later ↦ Contains-append_right (f z) (flat_map f zs) y (joined_has f zs x y later inside)
]

-- an element of joined pieces is one of some piece
joined_from : {X Y : Type 0} (f : X → List Y) (xs : List X) (y : Y) → Contains (flat_map f xs) y → (x : X) × Contains xs x × Contains (f x) y
joined_from f [] y has = absurd (Contains-nothing y has)
joined_from f (z ∷ zs) y has = elim (Contains-append_cases (f z) (flat_map f zs) y has) [
  | inl here ↦ (z, Contains-here z zs, here)
  | inr later ↦ let rest = joined_from f zs y later in (rest.0, Contains-there z rest.0 zs rest.1, rest.2)
]

-- an element under a function
under_has : {X Y : Type 0} (f : X → Y) (xs : List X) (x : X) → Contains xs x → Contains (map f xs) (f x)
under_has f [] x has = absurd (Contains-nothing x has)
under_has f (z ∷ zs) x has = elim (Contains-cases z x zs has) [
  | inl same ↦ subst (λ w. Contains (map f (z ∷ zs)) (f w)) same (Contains-here (f z) (map f zs))
  | inr later ↦ Contains-there (f z) (f x) (map f zs) (under_has f zs x later)
]

-- comes from one
under_from : {X Y : Type 0} (f : X → Y) (xs : List X) (y : Y) → Contains (map f xs) y → (x : X) × Contains xs x × (f x ≡ y)
under_from f [] y has = absurd (Contains-nothing y has)
under_from f (z ∷ zs) y has = elim (Contains-cases (f z) y (map f zs) has) [
  | inl same ↦ (z, Contains-here z zs, same)
  | inr later ↦ let rest = under_from f zs y later in (rest.0, Contains-there z rest.0 zs rest.1, rest.2)
]

module _ (nodes : List Node) where
  -- a place with a successor is one of the game
  pub edge_inside : (v w : ℕ) → HasEdge nodes v w → v < length nodes
  edge_inside v w has = elim (cases_lt v (length nodes)) [
    | inl below ↦ below
    | inr past ↦
        let none : successors_at nodes v ≡ [] = ap (λ (node : Node). node.successors) (get_or_past nodes v no_node past) in
        absurd (Contains-nothing w (subst (λ (list : List ℕ). Contains list w) none has))
  ]

  -- the edge of a number
  pub record IsNumbered (v w : ℕ) : Type 0 where
    pub number : ℕ
    pub below : number < length (shape_of nodes).edges
    pub ends : ends_at (shape_of nodes) number ≡ edge_of v w

  -- each listed successor has a number
  pub numbered : (v w : ℕ) → HasEdge nodes v w → IsNumbered v w
  numbered v w has =
      let listed : Contains (shape_of nodes).edges (edge_of v w) =
      joined_has (edges_from nodes) (range_with_len 0 (length nodes)) v (edge_of v w) (range_has (length nodes) v (edge_inside v w has))
      (under_has (edge_of v) (successors_at nodes v) w has) in
      record {
        number = listed.0;
        below = listed.1;
        ends = get_or_default (shape_of nodes).edges listed.0 (edge_of 0 0) (edge_of v w) listed.1 ∙ listed.2;
      }

  -- each number is that of a listed successor
  pub listed_successor : (number : ℕ) → number < length (shape_of nodes).edges
      → HasEdge nodes (ends_at (shape_of nodes) number).from (ends_at (shape_of nodes) number).to
  listed_successor number below =
      let edge : Edge = ends_at (shape_of nodes) number in
      let has : Contains (shape_of nodes).edges edge = (number, below, get_or_default (shape_of nodes).edges number edge (edge_of 0 0) below) in
      let place = joined_from (edges_from nodes) (range_with_len 0 (length nodes)) edge has in
      let successor = under_from (edge_of place.0) (successors_at nodes place.0) edge place.2 in
      subst (λ (e : Edge). HasEdge nodes e.from e.to) successor.2 successor.1
