-- Well-formed specifications whose successors have places make a game within the limits.
use Rattle.std.proofs.Common.{◌≡◌, ℕ, zero, suc, ◌<◌, ◌≤◌, ◌==◌, Bool, true, false, inl, inr, Option, Some, None, List, [], ◌∷◌, length, map, Contains, get_or, sum_by, refl, sym, ◌∙◌, ap, subst, arith}
use Rattle.std.specs.Prelude.{is_some, unwrap_or}
use Rattle.std.specs.List.{list_all, position}
use Rattle.std.specs.List.Sorted.{IsPermutation, IsStrictlyIncreasing}
use Rattle.std.proofs.lemmas.Bool.{cases_lt, and_parts, eqb-true}
use Rattle.std.proofs.lemmas.List.{same_lists, get_or-map, length-map, get_or_default, get_or_past}
use Rattle.std.proofs.lemmas.List.Quantifiers.{position-Some}
use Rattle.std.proofs.lemmas.List.Sorted.{IsPermutation-refl}
use Rattle.omega_game_values.specs.Limits.{most_nodes, most_successors}
use Rattle.omega_game_values.specs.declared.player.Player.{Player}
use Rattle.omega_game_values.specs.declared.node_spec.NodeSpec.{NodeSpec}
use Rattle.omega_game_values.specs.Game.{Node, no_node, IsGame, IsWithinLimits, IsWritableNode, HasEdge, node_at, successors_at}
use Rattle.omega_game_values.specs.Building.{IsGameOf, IsWellFormed, specified}
use Rattle.omega_game_values.specs.private.layout.Collected.{AreCollected}
use Rattle.omega_game_values.specs.private.layout.Columns.{Columns, AreEven, collected, nodes_of, node_in, specs_of, spec_in}
use Rattle.omega_game_values.specs.private.layout.Resolving.{is_defined, resolved_in}
use Rattle.omega_game_values.proofs.building.Collecting.{get_or-specs_of, length-specs_of, specs_of_is}
use Rattle.omega_game_values.proofs.layout.Columns.{get_or-nodes_of, node_at-nodes_of, length-nodes_of, identifiers-nodes_of, edge_count-nodes_of}

-- an identifier that has a place stands there
place_found : (ids : List ℕ) (x d : ℕ) → is_defined ids x ≡ true → (resolved_in ids x < length ids) × (get_or ids (resolved_in ids x) d ≡ x)
unfolding is_defined resolved_in
place_found ids x d found = go (position (λ id. id == x) ids) refl found
  where
    go : (place : Option ℕ) → position (λ id. id == x) ids ≡ place → is_some place ≡ true → (unwrap_or (position (λ id. id == x) ids) x < length ids) × (get_or ids (unwrap_or (position (λ id. id == x) ids) x) d ≡ x)
    go None e some = cc
    go (Some p) e some =
        let at : (p < length ids) × ((get_or ids p d == x) ≡ true) × ((k : ℕ) → k < p → (get_or ids k d == x) ≡ false) = position-Some (λ id. id == x) ids p d e in
        rw e (at.0, eqb-true (get_or ids p d) x at.1)

-- a test of all elements holds at each
list_all-at : {X : Type 0} (p : X → Bool) (xs : List X) → list_all p xs ≡ true → (k : ℕ) (d : X) → k < length xs → p (get_or xs k d) ≡ true
list_all-at p [] all k d h = absurd (omega arith)
list_all-at p (x ∷ xs) all zero d h = (and_parts (p x) (list_all p xs) all).0
list_all-at p (x ∷ xs) all (suc k) d h = list_all-at p xs (and_parts (p x) (list_all p xs) all).1 k d (omega arith)

-- what the successors of a game of specifications are made of
pub record AreResolved (ids : List ℕ) (lists places : List (List ℕ)) : Type 0 where
  pub defined : list_all (λ list. list_all (is_defined ids) list) lists ≡ true
  pub placed : places ≡ map (map (resolved_in ids)) lists

-- the places at a node
places_at : (ids : List ℕ) (lists places : List (List ℕ)) (v : ℕ) → AreResolved ids lists places → v < length lists → get_or places v [] ≡ map (resolved_in ids) (get_or lists v [])
places_at ids lists places v are h = ap (λ xs. get_or xs v []) are.placed ∙ get_or-map (map (resolved_in ids)) lists v [] [] h

-- each place at a node is that of its identifier
place_at : (ids : List ℕ) (lists places : List (List ℕ)) (v k d : ℕ) → AreResolved ids lists places → v < length lists → k < length (get_or lists v [])
    → (get_or (get_or places v []) k d < length ids) × (get_or ids (get_or (get_or places v []) k d) 0 ≡ get_or (get_or lists v []) k 0)
place_at ids lists places v k d are h l =
    let all : list_all (is_defined ids) (get_or lists v []) ≡ true = list_all-at (λ list. list_all (is_defined ids) list) lists are.defined v [] h in
    let one : is_defined ids (get_or (get_or lists v []) k 0) ≡ true = list_all-at (is_defined ids) (get_or lists v []) all k 0 l in
    let there : get_or (get_or places v []) k d ≡ resolved_in ids (get_or (get_or lists v []) k 0) =
    ap (λ xs. get_or xs k d) (places_at ids lists places v are h) ∙ get_or-map (resolved_in ids) (get_or lists v []) k 0 d l in
    let found : (resolved_in ids (get_or (get_or lists v []) k 0) < length ids) × (get_or ids (resolved_in ids (get_or (get_or lists v []) k 0)) 0 ≡ get_or (get_or lists v []) k 0) = place_found ids (get_or (get_or lists v []) k 0) 0 one in
    (omega (arith, there, found.0), ap (λ p. get_or ids p 0) there ∙ found.1)

-- the nodes as they are specified are the specifications
specified_nodes : (ids ranks : List ℕ) (owners : List Player) (lists quoted places : List (List ℕ)) → AreEven (collected ids ranks owners lists quoted) → AreResolved ids lists places
    → map (specified (nodes_of (collected ids ranks owners places quoted))) (nodes_of (collected ids ranks owners places quoted)) ≡ specs_of (collected ids ranks owners lists quoted)
unfolding node_in spec_in
specified_nodes ids ranks owners lists quoted places even are =
    sym (specs_of_is before (map (specified nodes) nodes) (length-map nodes (specified nodes) ∙ length-nodes_of after)
    (λ k d h. sym (get_or-map (specified nodes) nodes k no_node d (omega (arith, length-nodes_of after)) ∙ ap (specified nodes) (node_at-nodes_of after k h) ∙ each k h)))
  where
    before : Columns
    before = collected ids ranks owners lists quoted

    after : Columns
    after = collected ids ranks owners places quoted

    nodes : List Node
    nodes = nodes_of after

    back : (k : ℕ) → k < length ids → map (λ v. (node_at nodes v).identifier) (get_or places k []) ≡ get_or lists k []
    back k h =
        let size : length (get_or places k []) ≡ length (get_or lists k []) = ap length (places_at ids lists places k are (omega (arith, even.successors_even))) ∙ length-map (get_or lists k []) (resolved_in ids) in
        same_lists _ _ (length-map (get_or places k []) (λ v. (node_at nodes v).identifier) ∙ size)
        (λ i d l. let within : i < length (get_or lists k []) = omega (arith, length-map (get_or places k []) (λ v. (node_at nodes v).identifier), size) in
        let there : (get_or (get_or places k []) i 0 < length ids) × (get_or ids (get_or (get_or places k []) i 0) 0 ≡ get_or (get_or lists k []) i 0) = place_at ids lists places k i 0 are (omega (arith, even.successors_even)) within in
        get_or-map (λ v. (node_at nodes v).identifier) (get_or places k []) i 0 d (omega (arith, size))
        ∙ ap (λ (node : Node). node.identifier) (node_at-nodes_of after (get_or (get_or places k []) i 0) there.0)
        ∙ there.1 ∙ get_or_default (get_or lists k []) i 0 d within)

    each : (k : ℕ) → k < length ids → specified nodes (node_in after k) ≡ spec_in before k
    each k h = rw (back k h) refl

-- a successor that is listed stands in the column
listed_at : (columns : Columns) (v w : ℕ) → HasEdge (nodes_of columns) v w → (v < length columns.identifiers) × Contains (get_or columns.successors v []) w
unfolding node_in
listed_at columns v w edge = elim (cases_lt v (length columns.identifiers)) [
  | inl l ↦ (l, subst (λ (node : Node). Contains node.successors w) (node_at-nodes_of columns v l) edge)
  | inr l ↦ let none : node_at (nodes_of columns) v ≡ no_node = get_or_past (nodes_of columns) v no_node (omega (arith, length-nodes_of columns)) in
      let nothing : Contains [] w = subst (λ (node : Node). Contains node.successors w) none edge in
      absurd (omega (arith, nothing.1))
]

-- well-formed specifications whose successors have places make a game
pub game_of_columns : (ids ranks : List ℕ) (owners : List Player) (lists quoted places : List (List ℕ)) → AreCollected (collected ids ranks owners lists quoted) → AreResolved ids lists places
    → 0 < length ids → IsStrictlyIncreasing ids → IsGame (nodes_of (collected ids ranks owners places quoted))
unfolding node_in spec_in
game_of_columns ids ranks owners lists quoted places kept are some rises = record {
  inhabited = omega (arith, length-nodes_of after);
  rising = subst IsStrictlyIncreasing (sym (identifiers-nodes_of after)) rises;
  continued = λ v h. nonempty v (omega (arith, length-nodes_of after));
  closed = λ v w edge. within v w (listed_at after v w edge);
}
  where
    before : Columns
    before = collected ids ranks owners lists quoted

    after : Columns
    after = collected ids ranks owners places quoted

    nonempty : (v : ℕ) → v < length ids → 0 < length (successors_at (nodes_of after) v)
    nonempty v h =
        let listed : 0 < length (get_or lists v []) =
        subst (λ (spec : NodeSpec). 0 < length spec.successors) (get_or-specs_of before v (spec_in before 0) h) (kept.well_formed v (spec_in before 0) (omega (arith, length-specs_of before))).continued in
        let here : successors_at (nodes_of after) v ≡ get_or places v [] = ap (λ (node : Node). node.successors) (node_at-nodes_of after v h) in
        omega (arith, listed, ap length here, ap length (places_at ids lists places v are (omega (arith, kept.even.successors_even))), length-map (get_or lists v []) (resolved_in ids))

    within : (v w : ℕ) → (v < length ids) × Contains (get_or places v []) w → w < length (nodes_of after)
    within v w at =
        let size : length (get_or places v []) ≡ length (get_or lists v []) = ap length (places_at ids lists places v are (omega (arith, at.0, kept.even.successors_even))) ∙ length-map (get_or lists v []) (resolved_in ids) in
        let there : (get_or (get_or places v []) at.1.0 w < length ids) × (get_or ids (get_or (get_or places v []) at.1.0 w) 0 ≡ get_or (get_or lists v []) at.1.0 0) =
        place_at ids lists places v at.1.0 w are (omega (arith, at.0, kept.even.successors_even)) (omega (arith, at.1.1, size)) in
        omega (arith, there.0, at.1.2, length-nodes_of after)

-- the game of the specifications
pub IsGameOf-columns : (ids ranks : List ℕ) (owners : List Player) (lists quoted places : List (List ℕ)) → AreCollected (collected ids ranks owners lists quoted) → AreResolved ids lists places
    → 0 < length ids → IsStrictlyIncreasing ids → IsGameOf (specs_of (collected ids ranks owners lists quoted)) (nodes_of (collected ids ranks owners places quoted))
IsGameOf-columns ids ranks owners lists quoted places kept are some rises = record {
  game = game_of_columns ids ranks owners lists quoted places kept are some rises;
  rearranged = subst (IsPermutation (specs_of (collected ids ranks owners lists quoted))) (sym (specified_nodes ids ranks owners lists quoted places kept.even are)) (IsPermutation-refl (specs_of (collected ids ranks owners lists quoted)));
}

-- the limits of the game
pub limits_of_columns : (ids ranks : List ℕ) (owners : List Player) (lists quoted places : List (List ℕ)) → AreCollected (collected ids ranks owners lists quoted) → AreResolved ids lists places
    → length ids ≤ most_nodes → sum_by (λ list. length list) places ≤ most_successors → IsWithinLimits (nodes_of (collected ids ranks owners places quoted))
unfolding node_in spec_in
limits_of_columns ids ranks owners lists quoted places kept are few_nodes few_edges = record {
  few_nodes = omega (arith, length-nodes_of after);
  few_edges = omega (arith, edge_count-nodes_of after even);
  writable = λ k d h. let within : k < length ids = omega (arith, length-nodes_of after) in
      subst IsWritableNode (sym (get_or-nodes_of after k d within))
      (let spec : IsWellFormed (spec_in before k) = subst IsWellFormed (get_or-specs_of before k (spec_in before 0) within) (kept.well_formed k (spec_in before 0) (omega (arith, length-specs_of before))) in
      record { identifier = spec.id; priority = spec.priority; name = spec.name });
}
  where
    before : Columns
    before = collected ids ranks owners lists quoted

    after : Columns
    after = collected ids ranks owners places quoted

    even : AreEven after
    even = record {
      priorities_even = kept.even.priorities_even;
      owners_even = kept.even.owners_even;
      successors_even = ap length are.placed ∙ length-map lists (map (resolved_in ids)) ∙ kept.even.successors_even;
      quoted_within = kept.even.quoted_within;
    }

-- columns with as many places as identifiers are even
pub AreEven-resolved : (ids ranks : List ℕ) (owners : List Player) (lists quoted places : List (List ℕ)) → AreEven (collected ids ranks owners lists quoted) → AreResolved ids lists places
    → AreEven (collected ids ranks owners places quoted)
AreEven-resolved ids ranks owners lists quoted places even are = record {
  priorities_even = even.priorities_even;
  owners_even = even.owners_even;
  successors_even = ap length are.placed ∙ length-map lists (map (resolved_in ids)) ∙ even.successors_even;
  quoted_within = even.quoted_within;
}
