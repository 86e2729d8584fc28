-- Winning by the least priority is winning in the game whose priorities are turned.
use Rattle.std.proofs.Common.{◌≡◌, ℕ, ◌<◌, ◌≤◌, inl, inr, max, List, [], ◌∷◌, Option, length, get_or, map, ap, sym, ◌∙◌, subst, arith}
use Rattle.std.specs.Prelude.{Contains}
use Rattle.std.specs.List.Sorted.{IsStrictlyIncreasing}
use Rattle.std.proofs.lemmas.Bool.{cases_lt}
use Rattle.std.proofs.lemmas.List.{ext_get_or, get_or_past, get_or-map, length-map}
use Rattle.std.proofs.lemmas.List.FromFn.{get_or-map-range_with_len, length-map-range_with_len}
use Rattle.omega_game_values.specs.declared.player.Player.{Player}
use Rattle.omega_game_values.specs.Bound.{priorities_in_use}
use Rattle.omega_game_values.specs.Game.{HasEdge, Node, identifier_at, identifiers, no_node, node_at, owner_at, priorities, priority_at, successors_at}
use Rattle.omega_game_values.specs.Player.{loses}
use Rattle.omega_game_values.specs.Winning.{IsClosedWalk, IsStrategy, IsWalk, Leaves, Wins, end_of, greatest_on}
use Rattle.omega_answers_game.specs.LeastPriorityLaws.{TurnedGamesAreGames, TurnedGamesWinAlike, TurnedRegionsAreAlike}
use Rattle.omega_answers_game.specs.Turning.{turned_game, turned_priority}
use Rattle.omega_answers_game.specs.Winning.{WinsByLeast, least_on}
use Rattle.omega_answers_game.proofs.TurnedPriorities.{IsAmong, among-in_use, among-min, turned-loses, turned-min}

-- ---- games with the same owners and edges

-- the games have as many nodes, with the same owners and edges
pub record AreAlike (nodes others : List Node) : Type 0 where
  pub count : length others ≡ length nodes
  pub owner : (v : ℕ) → owner_at others v ≡ owner_at nodes v
  pub successors : (v : ℕ) → successors_at others v ≡ successors_at nodes v

pub alike-back : (nodes others : List Node) → AreAlike nodes others → AreAlike others nodes
alike-back nodes others alike = record {
  count = sym alike.count;
  owner = λ v. sym (alike.owner v);
  successors = λ v. sym (alike.successors v);
}

module _ (nodes others : List Node) (alike : AreAlike nodes others) (player : Player) (choices : List (Option ℕ)) where
  edge-alike : (v w : ℕ) → HasEdge nodes v w → HasEdge others v w
  edge-alike v w edge = subst (λ list. Contains list w) (sym (alike.successors v)) edge

  -- they have the same strategies
  strategy-alike : IsStrategy nodes player choices → IsStrategy others player choices
  strategy-alike strategy = record {
    entries = strategy.entries ∙ sym alike.count;
    owned = λ v w chooses. alike.owner v ∙ strategy.owned v w chooses;
    listed = λ v w chooses. edge-alike v w (strategy.listed v w chooses);
  }

  -- which leave the same edges possible
  pub leaves-alike : (v w : ℕ) → Leaves nodes player choices v w → Leaves others player choices v w
  leaves-alike v w leaves = record {
    listed = edge-alike v w leaves.listed;
    chosen = λ own. leaves.chosen (sym (alike.owner v) ∙ own);
  }

  -- and the same walks
  walk-alike : (v : ℕ) (ws : List ℕ) → IsWalk nodes player choices v ws → IsWalk others player choices v ws
  walk-alike v [] inside = omega (arith, inside, alike.count)
  walk-alike v (w ∷ ws) walk = (leaves-alike v w walk.0, walk-alike w ws walk.1)

  closed-alike : (v : ℕ) (ws : List ℕ) → IsClosedWalk nodes player choices v ws → IsClosedWalk others player choices v ws
  closed-alike v ws closed = record {
    walk = walk-alike v ws closed.walk;
    longer = closed.longer;
    closed = closed.closed;
  }

-- ---- the turned game

module _ (nodes : List Node) where
  -- its priorities
  abbrev pub turned : List ℕ
  turned = map (turned_priority (priorities nodes)) (priorities nodes)

  abbrev pub turned_node : ℕ → Node
  turned_node v = record (node_at nodes v) { priority = get_or turned v 0 }

  pub count-turned : length (turned_game nodes) ≡ length nodes
  count-turned = length-map-range_with_len turned_node 0 (length nodes)

  node-turned : (v : ℕ) → v < length nodes → node_at (turned_game nodes) v ≡ turned_node v
  node-turned v inside = get_or-map-range_with_len turned_node 0 (length nodes) v v no_node inside (omega arith)

  node-past : (v : ℕ) → length nodes ≤ v → node_at (turned_game nodes) v ≡ node_at nodes v
  node-past v past = get_or_past (turned_game nodes) v no_node (omega (arith, count-turned, past)) ∙ sym (get_or_past nodes v no_node past)

  owner-turned : (v : ℕ) → owner_at (turned_game nodes) v ≡ owner_at nodes v
  owner-turned v =
      elim (cases_lt v (length nodes)) as (λ _. owner_at (turned_game nodes) v ≡ owner_at nodes v) [
        | inl inside ↦ ap (λ (node : Node). node.owner) (node-turned v inside)
        | inr past ↦ ap (λ (node : Node). node.owner) (node-past v past)
      ]

  pub successors-turned : (v : ℕ) → successors_at (turned_game nodes) v ≡ successors_at nodes v
  successors-turned v =
      elim (cases_lt v (length nodes)) as (λ _. successors_at (turned_game nodes) v ≡ successors_at nodes v) [
        | inl inside ↦ ap (λ (node : Node). node.successors) (node-turned v inside)
        | inr past ↦ ap (λ (node : Node). node.successors) (node-past v past)
      ]

  identifier-turned : (v : ℕ) → identifier_at (turned_game nodes) v ≡ identifier_at nodes v
  identifier-turned v =
      elim (cases_lt v (length nodes)) as (λ _. identifier_at (turned_game nodes) v ≡ identifier_at nodes v) [
        | inl inside ↦ ap (λ (node : Node). node.identifier) (node-turned v inside)
        | inr past ↦ ap (λ (node : Node). node.identifier) (node-past v past)
      ]

  pub priorities-counted : length (priorities nodes) ≡ length nodes
  priorities-counted = length-map nodes (λ (node : Node). node.priority)

  pub priority-listed : (v : ℕ) → v < length nodes → get_or (priorities nodes) v 0 ≡ priority_at nodes v
  priority-listed v inside = get_or-map (λ (node : Node). node.priority) nodes v no_node 0 inside

  -- the priority at a place is turned
  pub priority-turned : (v : ℕ) → v < length nodes → priority_at (turned_game nodes) v ≡ turned_priority (priorities nodes) (priority_at nodes v)
  priority-turned v inside =
      let listed : v < length (priorities nodes) = omega (arith, inside, priorities-counted) in
      ap (λ (node : Node). node.priority) (node-turned v inside)
      ∙ get_or-map (turned_priority (priorities nodes)) (priorities nodes) v 0 0 listed
      ∙ ap (turned_priority (priorities nodes)) (priority-listed v inside)

  pub alike-turned : AreAlike nodes (turned_game nodes)
  alike-turned = record { count = count-turned; owner = owner-turned; successors = successors-turned }

  -- a priority of a node is in use
  pub in-use : (v : ℕ) → v < length nodes → IsAmong (priority_at nodes v) (priorities_in_use (priorities nodes))
  in-use v inside =
      subst (λ p. IsAmong p (priorities_in_use (priorities nodes))) (priority-listed v inside)
      (among-in_use (priorities nodes) v (omega (arith, inside, priorities-counted)))

  -- a place that is left is a node
  pub left-inside : (v w : ℕ) → HasEdge nodes v w → v < length nodes
  left-inside v w edge =
      elim (cases_lt v (length nodes)) as (λ _. v < length nodes) [
        | inl inside ↦ inside
        | inr past ↦ absurd (no-edge (subst (λ (node : Node). Contains node.successors w) (get_or_past nodes v no_node past) edge))
      ]
    where
      no-edge : Contains {X = ℕ} [] w → ⊥
      no-edge listed = absurd (omega (arith, listed.1))

  module _ (player : Player) (choices : List (Option ℕ)) where
    -- the least priority on a walk is in use
    least-in_use : (v : ℕ) (ws : List ℕ) → IsWalk nodes player choices v ws → IsAmong (least_on nodes v ws) (priorities_in_use (priorities nodes))
    least-in_use v [] walk = in-use v walk
    least-in_use v (w ∷ ws) walk =
        among-min (priority_at nodes v) (least_on nodes w ws) (priorities_in_use (priorities nodes))
        (in-use v (left-inside v w walk.0.listed)) (least-in_use w ws walk.1)

    -- and is turned into the greatest
    greatest-turned : (v : ℕ) (ws : List ℕ) → IsWalk nodes player choices v ws
        → greatest_on (turned_game nodes) v ws ≡ turned_priority (priorities nodes) (least_on nodes v ws)
    greatest-turned v [] walk = priority-turned v walk
    greatest-turned v (w ∷ ws) walk =
        let inside = left-inside v w walk.0.listed in
        ap (λ n. max n (greatest_on (turned_game nodes) w ws)) (priority-turned v inside)
        ∙ ap (max (turned_priority (priorities nodes) (priority_at nodes v))) (greatest-turned w ws walk.1)
        ∙ turned-min (priorities nodes) (priority_at nodes v) (least_on nodes w ws) (in-use v inside) (least-in_use w ws walk.1)

    -- so it loses for the same player
    loses-alike : (v : ℕ) (ws : List ℕ) → IsWalk nodes player choices v ws
        → loses player (greatest_on (turned_game nodes) v ws) ≡ loses player (least_on nodes v ws)
    loses-alike v ws walk =
        ap (loses player) (greatest-turned v ws walk) ∙ turned-loses (priorities nodes) player (least_on nodes v ws)

    pub wins-turned : (v : ℕ) → WinsByLeast nodes player choices v → Wins (turned_game nodes) player choices v
    wins-turned v wins there around walk closed loses_there =
        let back = alike-back nodes (turned_game nodes) alike-turned in
        let round = closed-alike (turned_game nodes) nodes back player choices (end_of v there) around closed in
        wins there around (walk-alike (turned_game nodes) nodes back player choices v there walk) round
        (sym (loses-alike (end_of v there) around round.walk) ∙ loses_there)

    pub wins-by_least : (v : ℕ) → Wins (turned_game nodes) player choices v → WinsByLeast nodes player choices v
    wins-by_least v wins there around walk closed loses_there =
        wins there around (walk-alike nodes (turned_game nodes) alike-turned player choices v there walk)
        (closed-alike nodes (turned_game nodes) alike-turned player choices (end_of v there) around closed)
        (loses-alike (end_of v there) around closed.walk ∙ loses_there)

-- ---- the laws

pub turned-win_alike : TurnedGamesWinAlike
turned-win_alike nodes player choices = (
  (
    strategy-alike nodes (turned_game nodes) (alike-turned nodes) player choices,
    strategy-alike (turned_game nodes) nodes (alike-back nodes (turned_game nodes) (alike-turned nodes)) player choices,
  ),
  λ v. (wins-turned nodes player choices v, wins-by_least nodes player choices v),
)

pub turned-regions_alike : TurnedRegionsAreAlike
turned-regions_alike nodes player v = (
  (λ region. record {
    node = omega (arith, region.node, count-turned nodes);
    choices = region.choices;
    strategy = strategy-alike nodes (turned_game nodes) (alike-turned nodes) player region.choices region.strategy;
    wins = wins-turned nodes player region.choices v region.wins;
  }),
  (λ region. record {
    node = omega (arith, region.node, count-turned nodes);
    choices = region.choices;
    strategy = strategy-alike (turned_game nodes) nodes (alike-back nodes (turned_game nodes) (alike-turned nodes)) player region.choices region.strategy;
    wins = wins-by_least nodes player region.choices v region.wins;
  }),
)

-- the identifiers are as they were
identifiers-turned : (nodes : List Node) → identifiers (turned_game nodes) ≡ identifiers nodes
identifiers-turned nodes =
    ext_get_or 0 (identifiers (turned_game nodes)) (identifiers nodes)
    (length-map (turned_game nodes) (λ (node : Node). node.identifier) ∙ count-turned nodes ∙ sym (length-map nodes (λ (node : Node). node.identifier)))
    (λ v inside.
    let here : v < length nodes = omega (arith, inside, length-map (turned_game nodes) (λ (node : Node). node.identifier), count-turned nodes) in
    get_or-map (λ (node : Node). node.identifier) (turned_game nodes) v no_node 0 (omega (arith, here, count-turned nodes))
    ∙ identifier-turned nodes v
    ∙ sym (get_or-map (λ (node : Node). node.identifier) nodes v no_node 0 here))

pub turned-games : TurnedGamesAreGames
turned-games nodes game = record {
  inhabited = omega (arith, game.inhabited, count-turned nodes);
  rising = subst IsStrictlyIncreasing (sym (identifiers-turned nodes)) game.rising;
  continued = λ v inside.
      subst (λ list. 0 < length list) (sym (successors-turned nodes v)) (game.continued v (omega (arith, inside, count-turned nodes)));
  closed = λ v w edge.
      let below = game.closed v w (subst (λ list. Contains list w) (successors-turned nodes v) edge) in
      omega (arith, below, count-turned nodes);
}
