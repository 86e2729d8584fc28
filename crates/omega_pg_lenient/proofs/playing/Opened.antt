-- The game of written specifications, from that of the completed ones.
use Rattle.std.proofs.Common.{◌≡◌, ℕ, suc, ◌+◌, ◌<◌, List, [], ◌∷◌, length, map, get_or, Contains, refl, ap, ap₂, sym, ◌∙◌, subst, arith}
use Rattle.std.specs.Prelude.{◌↔◌}
use Rattle.std.specs.List.Sorted.{IsPermutation, IsStrictlyIncreasing}
use Rattle.std.proofs.Math.ListN.{get_or-map}
use Rattle.std.proofs.lemmas.List.{length-map}
use Rattle.omega_game_values.specs.Building.{IsGameOf, specified}
use Rattle.omega_game_values.specs.Game.{HasEdge, IsGame, Node, identifier_at, identifiers, no_node, node_at}
use Rattle.omega_game_values.specs.Winning.{InRegion}
use Rattle.omega_game_values.specs.declared.node_spec.NodeSpec.{NodeSpec}
use Rattle.omega_game_values.proofs.elements.Membership.{Contains-here, same_place}
use Rattle.omega_pg_lenient.specs.DeadEnds.{completed, completed_by, losing_priority}
use Rattle.omega_pg_lenient.specs.Playing.{HasOpenGame, InOpenRegion, IsOpenGame, LenientGamesKeepWinners, completed_from, completed_node_by, completed_nodes}
use Rattle.omega_pg_lenient.proofs.playing.Back.{winners_kept}
use Rattle.omega_pg_lenient.proofs.playing.Completed.{edge_kept, identifier_same, identifiers_same, length_completed, live_by}
use Rattle.omega_pg_lenient.proofs.playing.Rearranged.{rearranged_under}

-- a node of the completed game as a specification with these successors writes it
abbrev opened_by : List ℕ → NodeSpec → Node → Node
opened_by [] spec node = record node { priority = spec.priority; successors = [] }
opened_by (first ∷ others) spec node = node

-- the nodes of the completed game as specifications write them
abbrev opened : List NodeSpec → List Node → List Node
opened [] nodes = []
opened (spec ∷ specs) [] = []
opened (spec ∷ specs) (node ∷ nodes) = opened_by spec.successors spec node ∷ opened specs nodes

-- a list that becomes one element has one
one_element : (f : ℕ → ℕ) (xs : List ℕ) (y : ℕ) → map f xs ≡ y ∷ [] → (x : ℕ) × (xs ≡ x ∷ []) × (f x ≡ y)
one_element f [] y is = absurd (omega (arith, ap length is))
one_element f (x ∷ []) y is = (let same : f x ≡ y = cc in (x, refl, same))
one_element f (x ∷ next ∷ xs) y is = absurd (omega (arith, ap length is))

-- functions that agree
map_agree : (f g : ℕ → ℕ) (xs : List ℕ) → ((x : ℕ) → f x ≡ g x) → map f xs ≡ map g xs
map_agree f g [] agree = refl
map_agree f g (x ∷ xs) agree = ap₂ ◌∷◌ (agree x) (map_agree f g xs agree)

module _ (game : List Node) (is_game : IsGame game) where
  -- the node that a completed dead end specifies is its only successor
  stays : (from : ℕ) (spec : NodeSpec) (node : Node) → node_at game from ≡ node → from < length game
      → completed_by [] spec ≡ specified game node → node.successors ≡ from ∷ []
  stays from spec node there inside is =
      let one = one_element (identifier_at game) node.successors spec.id (sym (ap (λ (s : NodeSpec). s.successors) is)) in
      let edge : HasEdge game from one.0 =
      subst (λ (n : Node). Contains n.successors one.0) (sym there) (subst (λ list. Contains list one.0) (sym one.1) (Contains-here one.0 [])) in
      let below : one.0 < length game = is_game.closed from one.0 edge in
      let same : identifier_at game one.0 ≡ identifier_at game from =
      one.2 ∙ ap (λ (s : NodeSpec). s.id) is ∙ ap (λ (n : Node). n.identifier) (sym there) in
      let listed : (v : ℕ) → get_or (identifiers game) v 0 ≡ identifier_at game v = λ v. get_or-map (λ (n : Node). n.identifier) game v no_node in
      let long : length (identifiers game) ≡ length game = length-map game (λ (n : Node). n.identifier) in
      let place : one.0 ≡ from =
      same_place (identifiers game) one.0 from is_game.rising (omega (arith, below, long)) (omega (arith, inside, long)) (listed one.0 ∙ same ∙ sym (listed from)) in
      one.1 ∙ ap (λ w. w ∷ []) place

  -- so the node as it is written is completed to it
  node_closed : (from : ℕ) (spec : NodeSpec) (node : Node) (successors : List ℕ) → node_at game from ≡ node → from < length game
      → completed_by successors spec ≡ specified game node → spec.successors ≡ successors
      → completed_node_by (opened_by successors spec node).successors from (opened_by successors spec node) ≡ node
  node_closed from spec node [] there inside is listed =
      ap₂ (λ priority successors. record node { priority = priority; successors = successors })
      (ap losing_priority (sym (ap (λ (s : NodeSpec). s.owner) is)) ∙ ap (λ (s : NodeSpec). s.priority) is)
      (sym (stays from spec node there inside is))
  node_closed from spec node (first ∷ others) there inside is listed =
      let count : length (map (identifier_at game) node.successors) ≡ length (first ∷ others) =
      ap length (sym (ap (λ (s : NodeSpec). s.successors) is) ∙ listed) in
      live_by node.successors from node (omega (arith, count, length-map node.successors (identifier_at game)))

  -- the nodes from a place on are those of the game
  abbrev ArePlaced : ℕ → List Node → Type 0
  ArePlaced from nodes = (v place : ℕ) → from + v ≡ place → v < length nodes → (node_at game place ≡ node_at nodes v) × (place < length game)

  -- all of them are completed to the game
  all_closed : (from : ℕ) (specs : List NodeSpec) (nodes : List Node) → ArePlaced from nodes → map completed specs ≡ map (specified game) nodes
      → completed_from from (opened specs nodes) ≡ nodes
  all_closed from [] [] placed same = refl
  all_closed from [] (node ∷ nodes) placed same = absurd (omega (arith, ap length same))
  all_closed from (spec ∷ specs) [] placed same = absurd (omega (arith, ap length same))
  all_closed from (spec ∷ specs) (node ∷ nodes) placed same =
      let here = placed 0 from (omega arith) (omega arith) in
      let first : completed spec ≡ specified game node = cc in
      let others : map completed specs ≡ map (specified game) nodes = cc in
      ap₂ ◌∷◌ (node_closed from spec node spec.successors here.0 here.1 first refl)
      (all_closed (suc from) specs nodes (λ v place is inside. placed (suc v) place (omega (arith, is)) (omega (arith, inside))) others)

  module _ (open_game : List Node) (ids : (w : ℕ) → identifier_at open_game w ≡ identifier_at game w) where
    -- a node as it is written is specified so
    node_written : (spec : NodeSpec) (node : Node) (successors : List ℕ) → completed_by successors spec ≡ specified game node → spec.successors ≡ successors
        → specified open_game (opened_by successors spec node) ≡ spec
    node_written spec node [] is listed =
        let id : node.identifier ≡ spec.id = sym (ap (λ (s : NodeSpec). s.id) is) in
        let owner : node.owner ≡ spec.owner = sym (ap (λ (s : NodeSpec). s.owner) is) in
        let called : node.name ≡ spec.name = sym (ap (λ (s : NodeSpec). s.name) is) in
        let none : [] ≡ spec.successors = sym listed in
        λ i. record { id = id i; priority = spec.priority; owner = owner i; successors = none i; name = called i }
    node_written spec node (first ∷ others) is listed =
        ap (λ list. record (specified game node) { successors = list })
        (map_agree (identifier_at open_game) (identifier_at game) node.successors ids)
        ∙ sym is

    -- so are all
    all_written : (specs : List NodeSpec) (nodes : List Node) → map completed specs ≡ map (specified game) nodes
        → map (specified open_game) (opened specs nodes) ≡ specs
    all_written [] nodes same = refl
    all_written (spec ∷ specs) [] same = absurd (omega (arith, ap length same))
    all_written (spec ∷ specs) (node ∷ nodes) same =
        let first : completed spec ≡ specified game node = cc in
        let others : map completed specs ≡ map (specified game) nodes = cc in
        ap₂ ◌∷◌ (node_written spec node spec.successors first refl) (all_written specs nodes others)

-- a game that is completed to this one is a game
open_from_completed : (nodes game : List Node) → completed_nodes nodes ≡ game → IsGame game → IsOpenGame nodes
open_from_completed nodes game is is_game =
    let long : length nodes ≡ length game = sym (length_completed nodes) ∙ ap length is in
    record {
      inhabited = omega (arith, long, is_game.inhabited);
      rising = subst IsStrictlyIncreasing (ap identifiers (sym is) ∙ identifiers_same nodes) is_game.rising;
      closed = λ v w edge.
          let below = is_game.closed v w (subst (λ (list : List Node). HasEdge list v w) is (edge_kept nodes v w edge)) in
          omega (arith, long, below);
    }

-- the game of the written specifications has the winners of that of the completed ones
open_game_of : (written : List NodeSpec) (game : List Node) → IsGameOf (map completed written) game → HasOpenGame written game
open_game_of written game built =
    let order = rearranged_under completed written (map (specified game) game) built.rearranged in
    let nodes = opened order.list game in
    let closes : completed_nodes nodes ≡ game =
    all_closed game built.game 0 order.list game
    (λ v place is inside. let same : v ≡ place = omega (arith, is) in
    subst (λ p. (node_at game p ≡ node_at game v) × (p < length game)) same (refl, inside))
    order.same in
    let ids : (w : ℕ) → identifier_at nodes w ≡ identifier_at game w =
    λ w. sym (identifier_same nodes w) ∙ ap (λ (list : List Node). identifier_at list w) closes in
    record {
      nodes = nodes;
      of_written = record {
        game = open_from_completed nodes game closes built.game;
        rearranged = subst (IsPermutation written) (sym (all_written game built.game nodes ids order.list game order.same)) order.rearranged;
      };
      winners = λ player v. subst (λ (list : List Node). InOpenRegion nodes player v ↔ InRegion list player v) closes (winners_kept nodes player v);
    }

-- so does what a text writes
pub games_keep_winners : LenientGamesKeepWinners
games_keep_winners source game text =
    open_game_of text.spells.text.written game (subst (λ specs. IsGameOf specs game) text.spells.text.completes text.rearranged)
