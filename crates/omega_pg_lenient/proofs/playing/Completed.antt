-- The nodes of a completed game, one by one.
use Rattle.std.proofs.Common.{◌≡◌, ℕ, zero, suc, ◌+◌, ◌<◌, ◌≤◌, ◌⊎◌, inl, inr, ⊎_elim, List, [], ◌∷◌, length, Contains, refl, ap, ap₂, sym, ◌∙◌, subst, arith}
use Rattle.std.proofs.lemmas.List.{get_or_past}
use Rattle.std.proofs.str.Laws.{order}
use Rattle.omega_game_values.specs.Game.{HasEdge, Node, identifier_at, identifiers, no_node, node_at, owner_at, priority_at, successors_at}
use Rattle.omega_game_values.specs.Winning.{IsWalk, end_of}
use Rattle.omega_game_values.specs.declared.player.Player.{Player}
use Rattle.omega_game_values.specs.declared.player.Player.TheVariants.{One, Zero}
use Rattle.omega_game_values.proofs.elements.Membership.{Contains-cases, Contains-here, Contains-nothing}
use Rattle.std.specs.Prelude.{IsTrue, Option}
use Rattle.omega_game_values.specs.Player.{loses}
use Rattle.omega_pg_lenient.specs.DeadEnds.{losing_priority}
use Rattle.omega_pg_lenient.specs.Playing.{IsDeadEnd, completed_from, completed_node_by, completed_nodes}

-- as many nodes
length_from : (from : ℕ) (nodes : List Node) → length (completed_from from nodes) ≡ length nodes
length_from from [] = refl
length_from from (node ∷ nodes) = ap suc (length_from (suc from) nodes)

pub length_completed : (nodes : List Node) → length (completed_nodes nodes) ≡ length nodes
length_completed nodes = length_from 0 nodes

-- each is the node at its place, completed
at_from : (from : ℕ) (nodes : List Node) (v place : ℕ) → from + v ≡ place → v < length nodes
    → node_at (completed_from from nodes) v ≡ completed_node_by (successors_at nodes v) place (node_at nodes v)
at_from from [] v place is inside = absurd (omega (arith, inside))
at_from from (node ∷ nodes) zero place is inside =
    let same : from ≡ place = omega (arith, is) in
    ap (λ u. completed_node_by node.successors u node) same
at_from from (node ∷ nodes) (suc v) place is inside = at_from (suc from) nodes v place (omega (arith, is)) (omega (arith, inside))

at_completed : (nodes : List Node) (v : ℕ) → v < length nodes
    → node_at (completed_nodes nodes) v ≡ completed_node_by (successors_at nodes v) v (node_at nodes v)
at_completed nodes v inside = at_from 0 nodes v v (omega arith) inside

-- past the end there is none in either
past_completed : (nodes : List Node) (v : ℕ) → length nodes ≤ v → node_at (completed_nodes nodes) v ≡ no_node
past_completed nodes v past = get_or_past (completed_nodes nodes) v no_node (omega (arith, past, length_completed nodes))

past_node : (nodes : List Node) (v : ℕ) → length nodes ≤ v → node_at nodes v ≡ no_node
past_node nodes v past = get_or_past nodes v no_node past

-- a node has no successors, or some
pub dead_or_live : (nodes : List Node) (v : ℕ) → IsDeadEnd nodes v ⊎ (0 < length (successors_at nodes v))
dead_or_live nodes v = either (successors_at nodes v)
  where
    either : (successors : List ℕ) → (successors ≡ []) ⊎ (0 < length successors)
    either [] = inl refl
    either (first ∷ others) = inr (omega arith)

-- a node with successors is one of the game
live_inside : (nodes : List Node) (v : ℕ) → 0 < length (successors_at nodes v) → v < length nodes
live_inside nodes v live =
    ⊎_elim
    (λ inside. inside)
    (λ past. absurd (omega (arith, live, ap (λ (node : Node). length node.successors) (past_node nodes v past))))
    (order v (length nodes))

-- such a node stays
pub live_by : (successors : List ℕ) (v : ℕ) (node : Node) → 0 < length successors → completed_node_by successors v node ≡ node
live_by [] v node live = absurd (omega (arith, live))
live_by (first ∷ others) v node live = refl

pub live_same : (nodes : List Node) (v : ℕ) → 0 < length (successors_at nodes v) → node_at (completed_nodes nodes) v ≡ node_at nodes v
live_same nodes v live = at_completed nodes v (live_inside nodes v live) ∙ live_by (successors_at nodes v) v (node_at nodes v) live

-- a dead end is its only successor, with a priority that loses for its owner
dead_same : (nodes : List Node) (v : ℕ) → v < length nodes → IsDeadEnd nodes v
    → node_at (completed_nodes nodes) v ≡ completed_node_by [] v (node_at nodes v)
dead_same nodes v inside dead = at_completed nodes v inside ∙ ap (λ successors. completed_node_by successors v (node_at nodes v)) dead

pub dead_priority : (nodes : List Node) (v : ℕ) → v < length nodes → IsDeadEnd nodes v
    → priority_at (completed_nodes nodes) v ≡ losing_priority (owner_at nodes v)
dead_priority nodes v inside dead = ap (λ (node : Node). node.priority) (dead_same nodes v inside dead)

-- owners stay
owner_by : (successors : List ℕ) (v : ℕ) (node : Node) → (completed_node_by successors v node).owner ≡ node.owner
owner_by [] v node = refl
owner_by (first ∷ others) v node = refl

pub owner_same : (nodes : List Node) (v : ℕ) → owner_at (completed_nodes nodes) v ≡ owner_at nodes v
owner_same nodes v =
    ⊎_elim
    (λ inside. ap (λ (node : Node). node.owner) (at_completed nodes v inside) ∙ owner_by (successors_at nodes v) v (node_at nodes v))
    (λ past. ap (λ (node : Node). node.owner) (past_completed nodes v past ∙ sym (past_node nodes v past)))
    (order v (length nodes))

-- identifiers stay
identifier_by : (successors : List ℕ) (v : ℕ) (node : Node) → (completed_node_by successors v node).identifier ≡ node.identifier
identifier_by [] v node = refl
identifier_by (first ∷ others) v node = refl

identifiers_from : (from : ℕ) (nodes : List Node) → identifiers (completed_from from nodes) ≡ identifiers nodes
identifiers_from from [] = refl
identifiers_from from (node ∷ nodes) = ap₂ ◌∷◌ (identifier_by node.successors from node) (identifiers_from (suc from) nodes)

pub identifiers_same : (nodes : List Node) → identifiers (completed_nodes nodes) ≡ identifiers nodes
identifiers_same nodes = identifiers_from 0 nodes

pub identifier_same : (nodes : List Node) (v : ℕ) → identifier_at (completed_nodes nodes) v ≡ identifier_at nodes v
identifier_same nodes v =
    ⊎_elim
    (λ inside. ap (λ (node : Node). node.identifier) (at_completed nodes v inside) ∙ identifier_by (successors_at nodes v) v (node_at nodes v))
    (λ past. ap (λ (node : Node). node.identifier) (past_completed nodes v past ∙ sym (past_node nodes v past)))
    (order v (length nodes))

-- an edge leaves a node with successors
pub edge_live : (nodes : List Node) (v w : ℕ) → HasEdge nodes v w → 0 < length (successors_at nodes v)
edge_live nodes v w edge = omega (arith, edge.1)

-- edges stay
pub edge_kept : (nodes : List Node) (v w : ℕ) → HasEdge nodes v w → HasEdge (completed_nodes nodes) v w
edge_kept nodes v w edge = subst (λ (node : Node). Contains node.successors w) (sym (live_same nodes v (edge_live nodes v w edge))) edge

-- a dead end has the edge to itself
pub dead_edge : (nodes : List Node) (v : ℕ) → v < length nodes → IsDeadEnd nodes v → HasEdge (completed_nodes nodes) v v
dead_edge nodes v inside dead = subst (λ (node : Node). Contains node.successors v) (sym (dead_same nodes v inside dead)) (Contains-here v [])

-- and no other
pub dead_only : (nodes : List Node) (v w : ℕ) → v < length nodes → IsDeadEnd nodes v → HasEdge (completed_nodes nodes) v w → w ≡ v
dead_only nodes v w inside dead edge =
    ⊎_elim
    (λ same. sym same)
    (λ none. absurd (Contains-nothing w none))
    (Contains-cases v w [] (subst (λ (node : Node). Contains node.successors w) (dead_same nodes v inside dead) edge))

-- there are no further edges
pub edge_cases : (nodes : List Node) (v w : ℕ) → HasEdge (completed_nodes nodes) v w → HasEdge nodes v w ⊎ (IsDeadEnd nodes v × (w ≡ v))
edge_cases nodes v w edge =
    ⊎_elim
    (λ inside. ⊎_elim
    (λ dead. inr (dead, dead_only nodes v w inside dead edge))
    (λ live. inl (subst (λ (node : Node). Contains node.successors w) (live_same nodes v live) edge))
    (dead_or_live nodes v))
    (λ past. absurd (Contains-nothing w (subst (λ (node : Node). Contains node.successors w) (past_completed nodes v past) edge)))
    (order v (length nodes))

-- a walk ends at a node of the game
pub end_inside : (nodes : List Node) (player : Player) (choices : List (Option ℕ)) (v : ℕ) (ws : List ℕ) → IsWalk nodes player choices v ws
    → end_of v ws < length nodes
end_inside nodes player choices v [] walk = walk
end_inside nodes player choices v (w ∷ ws) walk = end_inside nodes player choices w ws walk.1

-- the priority of a completed dead end loses for its owner alone
pub losing_for_owner : (player : Player) → IsTrue (loses player (losing_priority player))
losing_for_owner Zero = refl
losing_for_owner One = refl

pub losing_owner : (player owner : Player) → IsTrue (loses player (losing_priority owner)) → owner ≡ player
losing_owner Zero Zero lost = refl
losing_owner Zero One lost = cc
losing_owner One Zero lost = cc
losing_owner One One lost = refl
