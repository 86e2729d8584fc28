-- Edges of a game, from either end.
use Rattle.std.proofs.Common.{◌≡◌, ◌≢◌, ℕ, ◌<◌, ◌⊎◌, zero, suc, List, [], ◌∷◌, Some, length, arith, sym, ap, ◌∙◌, subst, slice_index, get_or, replicate, cond, eqb, true, zero-add, inl, inr}
use Rattle.std.specs.List.{slice_get, Contains, All, flat_map, range_with_len}
use Rattle.std.proofs.lemmas.Bool.{cases_eq, cases_lt, eq-eqb}
use Rattle.std.proofs.lemmas.List.{get_or_default, get_or_past, get_or-replicate, length-replicate}
use Rattle.std.proofs.lemmas.List.Elements.{All-append, All-replicate, All-head, All-tail, All-from_get_or, All-nil, Contains-get_or, Contains-append_left, Contains-append_right}
use Rattle.std.proofs.lemmas.List.FromFn.{get_or-range_with_len, length-range_with_len}
use Rattle.std.proofs.lemmas.List.Sums.{get_or-le-sum_by}
use Rattle.std.proofs.lemmas.Option.{slice_get_within, get_or_from_slice_get, slice_get-get_or}
use Rattle.omega_lift_schedules.proofs.Flags.{one_if}
use Rattle.omega_game_values.specs.Game.{Node, HasEdge, listed_times, no_node, node_at, predecessors_of, successors_at}

-- a successor at an index is a listed one
pub edge_at : (nodes : List Node) (v k w : ℕ) → slice_get (successors_at nodes v) k ≡ Some w → HasEdge nodes v w
edge_at nodes v k w at =
    (k, slice_get_within (successors_at nodes v) k w at, get_or_from_slice_get (successors_at nodes v) k w w at)

-- a listed successor has an index
pub index_of_edge : (nodes : List Node) (v w : ℕ) → HasEdge nodes v w
    → (k : ℕ) × (k < length (successors_at nodes v)) × (slice_get (successors_at nodes v) k ≡ Some w)
index_of_edge nodes v w edge =
    (edge.0, edge.1, slice_get-get_or (successors_at nodes v) edge.0 w edge.1 ∙ ap Some edge.2)

-- an edge leaves a node of the game
pub edge_leaves : (nodes : List Node) (v w : ℕ) → HasEdge nodes v w → v < length nodes
edge_leaves nodes v w edge = elim (cases_lt v (length nodes)) [
  | inl lt ↦ lt
  | inr past ↦
      let outside : node_at nodes v ≡ no_node = get_or_past nodes v no_node past in
      let none : length (successors_at nodes v) ≡ 0 = ap (λ (node : Node). length node.successors) outside in
      let inside : edge.0 < length (successors_at nodes v) = edge.1 in
      absurd (omega arith)
]

-- an element is in the list or not
pub contained : (xs : List ℕ) (x : ℕ) → Contains xs x ⊎ ¬ Contains xs x
contained [] x = inr (λ at. let lt : at.0 < 0 = at.1 in omega arith)
contained (y ∷ xs) x = elim (cases_eq y x) [
  | inl e ↦ inl (0, omega arith, e)
  | inr ne ↦ elim (contained xs x) [
    | inl at ↦ inl (Contains-append_right (y ∷ []) xs x at)
    | inr none ↦ inr (λ at. none (contained_tail y xs x ne at))
  ]
]
  where
    contained_tail : (y : ℕ) (xs : List ℕ) (x : ℕ) → y ≢ x → Contains (y ∷ xs) x → Contains xs x
    contained_tail y xs x ne (zero, lt, e) = absurd (ne e)
    contained_tail y xs x ne (suc k, lt, e) = (k, omega arith, e)

-- each element of copies of elements is one of them
all_copies : (P : ℕ → Type 0) (f : ℕ → ℕ) (xs : List ℕ) → All P xs → All P (flat_map (λ v. replicate (f v) v) xs)
all_copies P f [] all = All-nil P
all_copies P f (x ∷ xs) all =
    All-append P (replicate (f x) x) (flat_map (λ v. replicate (f v) v) xs) (All-replicate P (f x) x (All-head P x xs all))
    (all_copies P f xs (All-tail P x xs all))

-- the predecessors of a place are places
pub predecessors_inside : (nodes : List Node) (w : ℕ) → All (λ v. v < length nodes) (predecessors_of nodes w)
predecessors_inside nodes w =
    all_copies (λ v. v < length nodes) (λ v. listed_times nodes v w) (range_with_len 0 (length nodes))
    (All-from_get_or (λ v. v < length nodes) (range_with_len 0 (length nodes)) 0
    (λ i lt.
    let inside : i < length nodes = omega (arith, lt, length-range_with_len 0 (length nodes)) in
    omega (arith, get_or-range_with_len 0 (length nodes) i 0 inside)))

-- copies are of the element
replicated : (n x : ℕ) → 0 < n → Contains (replicate n x) x
replicated n x some = (0, omega (arith, length-replicate n x), get_or-replicate n 0 x x some)

-- what has a copy is among the copies
copied : (f : ℕ → ℕ) (xs : List ℕ) (u : ℕ) → Contains xs u → 0 < f u → Contains (flat_map (λ v. replicate (f v) v) xs) u
copied f [] u at some = let lt : at.0 < 0 = at.1 in absurd (omega arith)
copied f (x ∷ xs) u (zero, lt, e) some =
    Contains-append_left (replicate (f x) x) (flat_map (λ v. replicate (f v) v) xs) u
    (subst (λ (w : ℕ). Contains (replicate (f x) x) w) e (replicated (f x) x (let f_same : f x ≡ f u = ap f e in omega arith)))
copied f (x ∷ xs) u (suc k, lt, e) some =
    Contains-append_right (replicate (f x) x) (flat_map (λ v. replicate (f v) v) xs) u
    (copied f xs u (k, omega arith, e) some)

-- each number below n is among them
place_listed : (n u : ℕ) → u < n → Contains (range_with_len 0 n) u
place_listed n u lt =
    (u, omega (arith, lt, length-range_with_len 0 n), get_or-range_with_len 0 n u u lt ∙ zero-add u)

-- a listed successor is listed at least once
listed_once : (nodes : List Node) (v w : ℕ) → HasEdge nodes v w → 0 < listed_times nodes v w
listed_once nodes v w edge =
    let some = get_or-le-sum_by (λ (u : ℕ). cond {A = ℕ} (eqb u w) 1 0) (successors_at nodes v) edge.0 w edge.1 in
    let same : eqb (get_or (successors_at nodes v) edge.0 w) w ≡ true = eq-eqb (get_or (successors_at nodes v) edge.0 w) w edge.2 in
    omega (arith, some, one_if (eqb (get_or (successors_at nodes v) edge.0 w) w) same)

-- an edge into a place leaves one of its predecessors
pub edge_from_predecessor : (nodes : List Node) (u v : ℕ) → HasEdge nodes u v → Contains (predecessors_of nodes v) u
edge_from_predecessor nodes u v edge =
    copied (λ w. listed_times nodes w v) (range_with_len 0 (length nodes)) u (place_listed (length nodes) u (edge_leaves nodes u v edge))
    (listed_once nodes u v edge)

-- an element of the list of successors is a listed one
pub edge_index : (nodes : List Node) (v : ℕ) (successors : List ℕ) (k : ℕ) → successors ≡ successors_at nodes v → k < length successors
    → HasEdge nodes v (slice_index successors k)
edge_index nodes v successors k e lt = subst (λ (xs : List ℕ). Contains xs (slice_index successors k)) e (Contains-get_or successors k 0 lt)

-- a listed successor is an element of the list of successors
pub index_listed : (nodes : List Node) (v : ℕ) (successors : List ℕ) (w : ℕ) → successors ≡ successors_at nodes v → HasEdge nodes v w
    → (k : ℕ) × (k < length successors) × (slice_index successors k ≡ w)
index_listed nodes v successors w e edge =
    let at : Contains successors w = subst (λ (xs : List ℕ). Contains xs w) (sym e) edge in
    (at.0, at.1, get_or_default successors at.0 0 w at.1 ∙ at.2)

-- an element of the list of predecessors is a place
pub predecessor_inside : (nodes : List Node) (w : ℕ) (predecessors : List ℕ) (k : ℕ) → predecessors ≡ predecessors_of nodes w → k < length predecessors
    → slice_index predecessors k < length nodes
predecessor_inside nodes w predecessors k e lt =
    let inside = subst (λ (xs : List ℕ). All (λ v. v < length nodes) xs) (sym e) (predecessors_inside nodes w) in
    inside k 0 lt
