-- Names of nodes do not matter: the game of rounds with names is won as the game without them.
use Rattle.std.proofs.Common.{◌≡◌, ◌↔◌, ℕ, ◌<◌, Bool, List, [], ◌∷◌, length, map, get_or, max, All, Contains, Option, Some, None, sym, ap, ap₂, refl, ◌∙◌, subst, arith, ltb, eqb}
use Rattle.std.specs.Prelude.{slice_index}
use Rattle.std.specs.List.{range_with_len}
use Rattle.std.specs.List.Sorted.{IsPermutation, IsStrictlyIncreasing}
use Rattle.std.proofs.Math.ListN.{get_or-map}
use Rattle.std.proofs.lemmas.Bool.{cond_both}
use Rattle.std.proofs.lemmas.List.{length-map}
use Rattle.std.proofs.lemmas.List.Sorted.{IsPermutation-map}
use Rattle.omega_game_values.proofs.elements.Membership.{map-map}
use Rattle.omega_game_values.specs.Building.{IsGameOf, specified, with_name}
use Rattle.omega_game_values.specs.Game.{HasEdge, IsGame, Node, identifiers, no_node, node_at, owner_at, priority_at, successors_at}
use Rattle.omega_game_values.specs.Winning.{InRegion, IsClosedWalk, IsStrategy, IsWalk, Leaves, Wins, end_of, greatest_on}
use Rattle.omega_game_values.specs.Player.{loses}
use Rattle.omega_game_values.specs.declared.node_spec.NodeSpec.{NodeSpec}
use Rattle.omega_game_values.specs.declared.player.Player.{Player}
use Rattle.omega_synth_rounds.specs.Naming.{IsNamedGame, named_table}
use Rattle.omega_synth_rounds.specs.RoundsGame.{IsRoundsGame, edge_node, node_count, node_for, question_node, sink_node, sink_place, state_node, table}
use Rattle.omega_synth_rounds.specs.declared.rounds.Rounds.{Rounds}

abbrev unnamed : Node → Node
unnamed node = record node { name = None }

abbrev unnamed_spec : NodeSpec → NodeSpec
unnamed_spec spec = record spec { name = None }

-- the nodes without their names
abbrev pub without_names : List Node → List Node
without_names nodes = map unnamed nodes

module _ (nodes : List Node) where
  node_same : (v : ℕ) → node_at (without_names nodes) v ≡ unnamed (node_at nodes v)
  node_same v = get_or-map unnamed nodes v no_node

  count_same : length (without_names nodes) ≡ length nodes
  count_same = length-map nodes unnamed

  owner_same : (v : ℕ) → owner_at (without_names nodes) v ≡ owner_at nodes v
  owner_same v = ap (λ (n : Node). n.owner) (node_same v)

  priority_same : (v : ℕ) → priority_at (without_names nodes) v ≡ priority_at nodes v
  priority_same v = ap (λ (n : Node). n.priority) (node_same v)

  successors_same : (v : ℕ) → successors_at (without_names nodes) v ≡ successors_at nodes v
  successors_same v = ap (λ (n : Node). n.successors) (node_same v)

  edge_here : (v w : ℕ) → HasEdge nodes v w → HasEdge (without_names nodes) v w
  edge_here v w has = subst (λ (list : List ℕ). Contains list w) (sym (successors_same v)) has

  edge_there : (v w : ℕ) → HasEdge (without_names nodes) v w → HasEdge nodes v w
  edge_there v w has = subst (λ (list : List ℕ). Contains list w) (successors_same v) has

  -- walks are the same
  walk_there : (player : Player) (choices : List (Option ℕ)) (v : ℕ) (ws : List ℕ) → IsWalk (without_names nodes) player choices v ws → IsWalk nodes player choices v ws
  walk_there player choices v [] walk = omega (arith, walk, count_same)
  walk_there player choices v (w ∷ ws) walk =
      let first : Leaves (without_names nodes) player choices v w = walk.0 in (
        record { listed = edge_there v w first.listed; chosen = λ own c chooses. first.chosen (owner_same v ∙ own) c chooses },
        walk_there player choices w ws walk.1,
      )

  greatest_same : (v : ℕ) (ws : List ℕ) → greatest_on nodes v ws ≡ greatest_on (without_names nodes) v ws
  greatest_same v [] = sym (priority_same v)
  greatest_same v (w ∷ ws) = ap₂ max (sym (priority_same v)) (greatest_same w ws)

  -- so regions are
  pub region_here : (player : Player) (v : ℕ) → InRegion nodes player v → InRegion (without_names nodes) player v
  region_here player v region = record {
    node = omega (arith, region.node, count_same);
    choices = region.choices;
    strategy = record {
      entries = region.strategy.entries ∙ sym count_same;
      owned = λ u w chooses. owner_same u ∙ region.strategy.owned u w chooses;
      listed = λ u w chooses. edge_here u w (region.strategy.listed u w chooses);
    };
    wins = λ there around walk closed loses_it.
        region.wins there around (walk_there player region.choices v there walk)
        (record { walk = walk_there player region.choices (end_of v there) around closed.walk; longer = closed.longer; closed = closed.closed })
        (ap (loses player) (greatest_same (end_of v there) around) ∙ loses_it);
  }

  game_here : IsGame nodes → IsGame (without_names nodes)
  game_here game = record {
    inhabited = omega (arith, game.inhabited, count_same);
    rising = subst IsStrictlyIncreasing (sym (map-map (λ node. node.identifier) unnamed nodes)) game.rising;
    continued = λ v below. subst (λ (list : List ℕ). 0 < length list) (sym (successors_same v)) (game.continued v (omega (arith, below, count_same)));
    closed = λ v w has. omega (arith, game.closed v w (edge_there v w has), count_same);
  }

  specified_same : (node : Node) → unnamed_spec (specified nodes node) ≡ specified (without_names nodes) (unnamed node)
  specified_same node =
      ap (λ (list : List ℕ). record { id = node.identifier; priority = node.priority; owner = node.owner; successors = list; name = None })
      (successors_are node.successors)
    where
      successors_are : (list : List ℕ) → map (λ v. (node_at nodes v).identifier) list ≡ map (λ v. (node_at (without_names nodes) v).identifier) list
      successors_are [] = refl
      successors_are (v ∷ vs) = ap₂ ◌∷◌ (sym (ap (λ (n : Node). n.identifier) (node_same v))) (successors_are vs)

-- functions that agree give the same list
map_agrees : {X Y : Type 0} (f g : X → Y) (xs : List X) → ((x : X) → f x ≡ g x) → map f xs ≡ map g xs
map_agrees f g [] same = refl
map_agrees f g (x ∷ xs) same = ap₂ ◌∷◌ (same x) (map_agrees f g xs same)

node_unnamed : (rounds : Rounds) (place : ℕ) → (node_for rounds place).name ≡ None
node_unnamed rounds place =
    cond_both (ltb place (length rounds.states)) (state_node rounds place) _ (λ (spec : NodeSpec). spec.name ≡ None) (λ is. refl)
    (λ is. cond_both (ltb place (sink_place rounds)) (edge_node rounds _) _ (λ (spec : NodeSpec). spec.name ≡ None) (λ is. refl)
    (λ is. cond_both (eqb place (sink_place rounds)) (sink_node rounds) (question_node rounds _) (λ (spec : NodeSpec). spec.name ≡ None) (λ is. refl) (λ is. refl)))

renamed : (name : List ℕ) (spec : NodeSpec) → spec.name ≡ None → unnamed_spec (with_name name spec) ≡ spec
renamed name spec is = ap (λ (o : Option (List ℕ)). record { id = spec.id; priority = spec.priority; owner = spec.owner; successors = spec.successors; name = o }) (sym is)

pub unnamed_game : (rounds : Rounds) (game : List Node) → IsNamedGame rounds game → IsRoundsGame rounds (without_names game)
unnamed_game rounds game named = record {
  game = game_here game named.game_is.game;
  rearranged =
      subst (λ (specs : List NodeSpec). IsPermutation specs (map (specified (without_names game)) (without_names game)))
      (map-map unnamed_spec (λ place. with_name (named.names place) (node_for rounds place)) (range_with_len 0 (node_count rounds))
      ∙ map_agrees (λ place. unnamed_spec (with_name (named.names place) (node_for rounds place))) (node_for rounds) (range_with_len 0 (node_count rounds))
      (λ place. renamed (named.names place) (node_for rounds place) (node_unnamed rounds place)))
      (subst (λ (specs : List NodeSpec). IsPermutation (map unnamed_spec (named_table named.names rounds)) specs)
      (map-map unnamed_spec (specified game) game
      ∙ map_agrees (λ node. unnamed_spec (specified game node)) (λ node. specified (without_names game) (unnamed node)) game (specified_same game)
      ∙ sym (map-map (specified (without_names game)) unnamed game))
      (IsPermutation-map unnamed_spec (named_table named.names rounds) (map (specified game) game) named.game_is.rearranged));
}
