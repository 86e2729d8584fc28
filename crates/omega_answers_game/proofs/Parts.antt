-- A node has one identifier, and the part that it reaches is one.
use Rattle.std.proofs.Common.{◌≡◌, ℕ, zero, suc, ◌+◌, ◌-◌, ◌<◌, ◌≤◌, List, [], ◌∷◌, length, get_or, slice_index, slice_index_or, map, drop, ◌⊎◌, inl, inr, refl, sym, ap, subst, ◌∙◌, arith}
use Rattle.std.specs.List.{Contains, sum_by}
use Rattle.std.specs.List.Sorted.{IsStrictlyIncreasing}
use Rattle.std.proofs.lemmas.List.{drop-drop, get_or-map, length-map}
use Rattle.std.proofs.lemmas.List.Elements.{All-map, Contains-get_or}
use Rattle.std.proofs.lemmas.List.Kept.{AllPairs-from_increasing}
use Rattle.std.proofs.lemmas.List.Sums.{sum_by-cons, sum_by-drop_more, sum_by-take-drop}
use Rattle.omega_game_values.specs.Game.{IsGame, IsWithinLimits, IsWritableNode, Node, successor_count, identifiers, no_node, node_at}
use Rattle.omega_game_reaching.specs.Laws.{PartsKeepNodes}
use Rattle.omega_game_values.specs.Paths.{Reaches}
use Rattle.omega_game_values.specs.Places.{new_place}
use Rattle.omega_game_reaching.specs.Part.{IsPart, IsPartAt, restricted}
use Rattle.omega_answers_game.specs.Part.{HasIdentifier, IsPartFrom}

-- ---- rising lists with the same members

member-cases : (x : ℕ) (xs : List ℕ) (u : ℕ) → Contains (x ∷ xs) u → (x ≡ u) ⊎ Contains xs u
member-cases x xs u (zero, h, e) = inl e
member-cases x xs u (suc j, h, e) = inr (j, omega arith, e)

member-cons : (x : ℕ) (xs : List ℕ) (u : ℕ) → Contains xs u → Contains (x ∷ xs) u
member-cons x xs u (j, h, e) = (suc j, omega arith, e)

rising-tail : (x : ℕ) (xs : List ℕ) → IsStrictlyIncreasing (x ∷ xs) → IsStrictlyIncreasing xs
rising-tail x xs rising k h =
    let next : suc k + 1 ≡ suc (k + 1) = omega arith in
    subst (λ (i : ℕ). slice_index xs k < slice_index (x ∷ xs) i) next (rising (suc k) (omega arith))

rising-head : (x : ℕ) (xs : List ℕ) (u : ℕ) → IsStrictlyIncreasing (x ∷ xs) → Contains xs u → x < u
rising-head x xs u rising (j, h, e) =
    let below : x < get_or xs j u = AllPairs-from_increasing (x ∷ xs) rising 0 (suc j) u (omega arith) (omega arith) in
    rw e at below

-- the first of two rising lists with the same members are the same
same_first : (x y : ℕ) (xs ys : List ℕ) → IsStrictlyIncreasing (x ∷ xs) → IsStrictlyIncreasing (y ∷ ys)
    → Contains (y ∷ ys) x → Contains (x ∷ xs) y → x ≡ y
same_first x y xs ys rising rising' there back =
    elim (member-cases y ys x there) [
      | inl e ↦ sym e
      | inr following ↦
          let less = rising-head y ys x rising' following in
          elim (member-cases x xs y back) [
            | inl e ↦ e
            | inr following' ↦ let less' = rising-head x xs y rising following' in absurd (omega arith)
          ]
    ]

-- a member of the rest of one is a member of the rest of the other
same_rest : (x : ℕ) (xs ys : List ℕ) (u : ℕ) → IsStrictlyIncreasing (x ∷ xs) → Contains xs u → Contains (x ∷ ys) u → Contains ys u
same_rest x xs ys u rising there back =
    let less = rising-head x xs u rising there in
    elim (member-cases x ys u back) [
      | inl e ↦ absurd (omega arith)
      | inr following ↦ following
    ]

same_rising : (xs ys : List ℕ) → IsStrictlyIncreasing xs → IsStrictlyIncreasing ys → ((u : ℕ) → Contains xs u → Contains ys u)
    → ((u : ℕ) → Contains ys u → Contains xs u) → xs ≡ ys
same_rising [] [] rising rising' there back = refl
same_rising [] (y ∷ ys) rising rising' there back = let none = back y (0, omega arith, refl) in absurd (omega (arith, none.1))
same_rising (x ∷ xs) [] rising rising' there back = let none = there x (0, omega arith, refl) in absurd (omega (arith, none.1))
same_rising (x ∷ xs) (y ∷ ys) rising rising' there back =
    let first = same_first x y xs ys rising rising' (there x (0, omega arith, refl)) (back y (0, omega arith, refl)) in
    let rest = same_rising xs ys (rising-tail x xs rising) (rising-tail y ys rising')
    (λ u h. same_rest x xs ys u rising h (rw first (there u (member-cons x xs u h))))
    (λ u h. same_rest y ys xs u rising' h (rw (← first) (back u (member-cons y ys u h)))) in cc

-- ---- parts

-- a place has one part
part-unique : (nodes one other : List Node) (v : ℕ) → IsPart nodes v one → IsPart nodes v other → one ≡ other
part-unique nodes one other v (kept, first) (kept', second) =
    let same = same_rising kept kept' first.rising second.rising
    (λ u h. (second.reached u).1 ((first.reached u).0 h)) (λ u h. (first.reached u).1 ((second.reached u).0 h)) in
    first.kept_nodes ∙ ap (restricted nodes) same ∙ sym second.kept_nodes

identifier-at : (nodes : List Node) (v : ℕ) → v < length nodes → get_or (identifiers nodes) v 0 ≡ (node_at nodes v).identifier
identifier-at nodes v h = get_or-map (λ (node : Node). node.identifier) nodes v no_node 0 h

-- of two nodes of a game with the same identifier neither is before the other
not_before : (nodes : List Node) (identifier p q : ℕ) → IsGame nodes → HasIdentifier nodes identifier p
    → HasIdentifier nodes identifier q → p < q → ⊥
not_before nodes identifier p q game one other h =
    let count = length-map nodes (λ (node : Node). node.identifier) in
    let below : get_or (identifiers nodes) p 0 < get_or (identifiers nodes) q 0 =
    AllPairs-from_increasing (identifiers nodes) game.rising p q 0 h (omega (arith, count, other.node)) in
    omega (arith, below, identifier-at nodes p one.node, identifier-at nodes q other.node, one.identified, other.identified)

-- a node of a game has its identifier alone
place-unique : (nodes : List Node) (identifier p q : ℕ) → IsGame nodes → HasIdentifier nodes identifier p
    → HasIdentifier nodes identifier q → p ≡ q
place-unique nodes identifier p q game one other =
    let before = not_before nodes identifier p q game one other in
    let following = not_before nodes identifier q p game other one in omega arith

-- an identifier has one part
pub part_from-unique : (nodes : List Node) (identifier : ℕ) (one other : List Node) → IsGame nodes → IsPartFrom nodes identifier one
    → IsPartFrom nodes identifier other → one ≡ other
part_from-unique nodes identifier one other game first second =
    let same = place-unique nodes identifier first.place second.place game first.identified second.identified in
    part-unique nodes one other second.place (rw same at first.reached) second.reached

-- the node at a kept place, as a part has it
abbrev kept_node : List Node → List ℕ → ℕ → Node
kept_node nodes kept v = record (node_at nodes v) { successors = map (new_place kept) (node_at nodes v).successors }

-- the part of an identifier has it
pub part_has_identifier : (nodes part : List Node) (identifier : ℕ) → IsPartFrom nodes identifier part → (place : ℕ) × HasIdentifier part identifier place
part_has_identifier nodes part identifier from =
    let (kept, at) = from.reached in
    let self : Reaches nodes from.place from.place = record { path = []; joined = from.identified.node; ends = refl } in
    let (j, below, held) = (at.reached from.place).1 self in
    let count : length part ≡ length kept = rw at.kept_nodes (length-map kept (kept_node nodes kept)) in
    let same : (node_at part j).identifier ≡ (node_at nodes from.place).identifier =
    rw at.kept_nodes (ap (λ (node : Node). node.identifier) (get_or-map (kept_node nodes kept) kept j from.place no_node below)
    ∙ ap (λ (v : ℕ). (node_at nodes v).identifier) held) in
    (j, record { node = omega (arith, below, count); identified = same ∙ from.identified.identified })

-- ---- the limits of parts

-- a sum from a later place on is no greater
sum_by-drop-le : {X : Type 0} (f : X → ℕ) (xs : List X) (b x : ℕ) → b ≤ x → sum_by f (drop x xs) ≤ sum_by f (drop b xs)
sum_by-drop-le f xs b x h =
    let whole = sum_by-take-drop f (drop b xs) (x - b) in
    let place : b + (x - b) ≡ x = omega arith in
    let rest : drop (x - b) (drop b xs) ≡ drop x xs = drop-drop (x - b) b xs ∙ ap (λ (i : ℕ). drop i xs) place in
    let sums : sum_by f (drop (x - b) (drop b xs)) ≡ sum_by f (drop x xs) = ap (sum_by f) rest in omega (arith, whole, sums)

-- rising places from some place on
abbrev IsWithin : ℕ → ℕ → List ℕ → Type 0
IsWithin b count places = (u : ℕ) → Contains places u → (b ≤ u) × (u < count)

within-head : (b count x : ℕ) (xs : List ℕ) → IsWithin b count (x ∷ xs) → (b ≤ x) × (x < count)
within-head b count x xs within = within x (0, omega arith, refl)

within-tail : (b count x : ℕ) (xs : List ℕ) → IsStrictlyIncreasing (x ∷ xs) → IsWithin b count (x ∷ xs) → IsWithin (x + 1) count xs
within-tail b count x xs rising within u h =
    let above = rising-head x xs u rising h in
    let inside = within u (member-cons x xs u h) in (omega arith, inside.1)

-- rising places are no more than there are
few-kept : (b count : ℕ) (places : List ℕ) → IsStrictlyIncreasing places → IsWithin b count places → b ≤ count → b + length places ≤ count
few-kept b count [] rising within h = omega arith
few-kept b count (x ∷ xs) rising within h =
    let head = within-head b count x xs within in
    let more = few-kept (x + 1) count xs (rising-tail x xs rising) (within-tail b count x xs rising within) (omega arith) in
    omega (arith, head.0, more)

-- the kept nodes list no more successors than the nodes from the first of them on
few-edges : (nodes : List Node) (kept : List ℕ) (b : ℕ) (places : List ℕ) → IsStrictlyIncreasing places → IsWithin b (length nodes) places
    → successor_count (map (kept_node nodes kept) places) ≤ successor_count (drop b nodes)
few-edges nodes kept b [] rising within = omega arith
few-edges nodes kept b (x ∷ xs) rising within =
    let head = within-head b (length nodes) x xs within in
    let more = few-edges nodes kept (x + 1) xs (rising-tail x xs rising) (within-tail b (length nodes) x xs rising within) in
    let here = length-map (node_at nodes x).successors (new_place kept) in
    let first = sum_by-cons (λ (node : Node). length node.successors) (kept_node nodes kept x) (map (kept_node nodes kept) xs) in
    let there = sum_by-drop_more (λ (node : Node). length node.successors) nodes x no_node head.1 in
    let later = sum_by-drop-le (λ (node : Node). length node.successors) nodes b x head.0 in
    omega (arith, more, here, first, there, later)

-- a part of a game within the limits is within them
pub part-limits : (nodes : List Node) (v : ℕ) (kept : List ℕ) (part : List Node) → PartsKeepNodes → IsGame nodes
    → IsWithinLimits nodes → IsPartAt nodes v kept part → IsWithinLimits part
part-limits nodes v kept part keeps game limits reached =
    let keep = keeps nodes part v kept game reached in
    let within : IsWithin 0 (length nodes) kept = λ u h. (omega arith, keep.inside u h) in
    let nodes_kept = few-kept 0 (length nodes) kept reached.rising within (omega arith) in
    let edges_kept = few-edges nodes kept 0 kept reached.rising within in
    rw reached.kept_nodes (record {
      few_nodes = omega (arith, nodes_kept, length-map kept (kept_node nodes kept), limits.few_nodes);
      few_edges = omega (arith, edges_kept, limits.few_edges);
      writable = All-map IsWritableNode (kept_node nodes kept) kept (λ k d h.
          let node : slice_index_or kept k d < length nodes = keep.inside _ (Contains-get_or kept k d h) in
          let writable = limits.writable (slice_index_or kept k d) no_node node in
          record { identifier = writable.identifier; priority = writable.priority; name = writable.name });
    })
