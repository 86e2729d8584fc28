-- Who wins where there are dead ends wins in the completed game.
use Rattle.std.proofs.Common.{◌≡◌, ℕ, ◌<◌, ⊎_elim, Option, List, [], ◌∷◌, length, refl, ap, ap₂, sym, ◌∙◌, subst, arith}
use Rattle.std.specs.Prelude.{IsTrue, max}
use Rattle.omega_game_values.specs.Game.{HasEdge, Node, owner_at, priority_at, successors_at}
use Rattle.omega_game_values.specs.Player.{loses}
use Rattle.omega_game_values.specs.Winning.{InRegion, IsClosedWalk, IsWalk, Leaves, Wins, end_of, greatest_on}
use Rattle.omega_game_values.specs.declared.player.Player.{Player}
use Rattle.omega_pg_lenient.specs.DeadEnds.{losing_priority}
use Rattle.omega_pg_lenient.specs.Playing.{InOpenRegion, IsDeadEnd, WinsOpenly, completed_nodes}
use Rattle.omega_pg_lenient.proofs.playing.Completed.{dead_only, dead_or_live, dead_priority, edge_cases, edge_kept, edge_live, end_inside, length_completed, live_same, losing_owner, owner_same}

-- a walk among nodes with successors, on which the priorities stay
record IsLiveWalk (nodes : List Node) (player : Player) (choices : List (Option ℕ)) (u : ℕ) (ws : List ℕ) : Type 0 where
  live : 0 < length (successors_at nodes u)
  walk : IsWalk nodes player choices u ws
  greatest : greatest_on (completed_nodes nodes) u ws ≡ greatest_on nodes u ws

module _ (nodes : List Node) (player : Player) (choices : List (Option ℕ)) where
  -- an edge of the game that is left possible in the completed game is left possible
  left_open : (v w : ℕ) → HasEdge nodes v w → Leaves (completed_nodes nodes) player choices v w → Leaves nodes player choices v w
  left_open v w edge leaves = record { listed = edge; chosen = λ owns choice chosen. leaves.chosen (owner_same nodes v ∙ owns) choice chosen }

  -- a walk in the completed game ends where one without the edges of dead ends does
  open_walk : (v : ℕ) (ws : List ℕ) → IsWalk (completed_nodes nodes) player choices v ws
      → (us : List ℕ) × IsWalk nodes player choices v us × (end_of v us ≡ end_of v ws)
  open_walk v [] walk = ([], omega (arith, walk, length_completed nodes), refl)
  open_walk v (w ∷ ws) walk =
      let rest = open_walk w ws walk.1 in
      ⊎_elim
      (λ edge. (w ∷ rest.0, (left_open v w edge walk.0, rest.1), rest.2))
      (λ stays. subst (λ u. (us : List ℕ) × IsWalk nodes player choices u us × (end_of u us ≡ end_of w ws)) stays.1 rest)
      (edge_cases nodes v w walk.0.listed)

  -- a walk from a dead end stays there
  greatest_stays : (v : ℕ) (ws : List ℕ) → v < length nodes → IsDeadEnd nodes v → IsWalk (completed_nodes nodes) player choices v ws
      → greatest_on (completed_nodes nodes) v ws ≡ priority_at (completed_nodes nodes) v
  greatest_stays v [] inside dead walk = refl
  greatest_stays v (w ∷ ws) inside dead walk =
      let stays : w ≡ v = dead_only nodes v w inside dead walk.0.listed in
      let rest = greatest_stays v ws inside dead (subst (λ u. IsWalk (completed_nodes nodes) player choices u ws) stays walk.1) in
      let same : greatest_on (completed_nodes nodes) w ws ≡ priority_at (completed_nodes nodes) v =
      ap (λ u. greatest_on (completed_nodes nodes) u ws) stays ∙ rest in
      omega (arith, same)

  -- a walk that ends at a node with successors comes through none without
  live_walk : (u : ℕ) (ws : List ℕ) → IsWalk (completed_nodes nodes) player choices u ws → 0 < length (successors_at nodes (end_of u ws))
      → IsLiveWalk nodes player choices u ws
  live_walk u [] walk live = record {
    live = live;
    walk = omega (arith, walk, length_completed nodes);
    greatest = ap (λ (node : Node). node.priority) (live_same nodes u live);
  }
  live_walk u (w ∷ ws) walk live =
      let rest = live_walk w ws walk.1 live in
      ⊎_elim
      (λ edge. record {
        live = edge_live nodes u w edge;
        walk = (left_open u w edge walk.0, rest.walk);
        greatest = ap₂ max (ap (λ (node : Node). node.priority) (live_same nodes u (edge_live nodes u w edge))) rest.greatest;
      })
      (λ stays. absurd (omega (arith, rest.live, ap length (ap (successors_at nodes) stays.1 ∙ stays.0))))
      (edge_cases nodes u w walk.0.listed)

  -- at a dead end the walk around loses for its owner alone, where the player does not come to
  dead_around : (v : ℕ) → WinsOpenly nodes player choices v → (us ws : List ℕ) (e : ℕ) → IsWalk nodes player choices v us → end_of v us ≡ e
      → IsDeadEnd nodes e → IsWalk (completed_nodes nodes) player choices e ws
      → IsTrue (loses player (greatest_on (completed_nodes nodes) e ws)) → ⊥
  dead_around v wins us ws e walk reached dead around lost =
      let inside : e < length nodes = subst (λ u. u < length nodes) reached (end_inside nodes player choices v us walk) in
      let greatest : greatest_on (completed_nodes nodes) e ws ≡ losing_priority (owner_at nodes e) =
      greatest_stays e ws inside dead around ∙ dead_priority nodes e inside dead in
      let owns : owner_at nodes e ≡ player = losing_owner player (owner_at nodes e) (subst (λ q. IsTrue (loses player q)) greatest lost) in
      wins.never_stuck us walk (ap (successors_at nodes) reached ∙ dead) (ap (owner_at nodes) reached ∙ owns)

  -- at another node it is a closed walk of the game
  live_around : (v : ℕ) → WinsOpenly nodes player choices v → (us ws : List ℕ) (e : ℕ) → IsWalk nodes player choices v us → end_of v us ≡ e
      → 0 < length (successors_at nodes e) → IsClosedWalk (completed_nodes nodes) player choices e ws
      → IsTrue (loses player (greatest_on (completed_nodes nodes) e ws)) → ⊥
  live_around v wins us ws e walk reached live around lost =
      let same = live_walk e ws around.walk (subst (λ u. 0 < length (successors_at nodes u)) (sym around.closed) live) in
      let here : IsClosedWalk nodes player choices e ws = record { walk = same.walk; longer = around.longer; closed = around.closed } in
      wins.forever us ws walk
      (subst (λ u. IsClosedWalk nodes player choices u ws) (sym reached) here)
      (subst (λ u. IsTrue (loses player (greatest_on nodes u ws))) (sym reached) (subst (λ q. IsTrue (loses player q)) same.greatest lost))

  -- so the strategy wins in the completed game
  wins_completed : (v : ℕ) → WinsOpenly nodes player choices v → Wins (completed_nodes nodes) player choices v
  wins_completed v wins there around walk closed lost =
      let reach = open_walk v there walk in
      ⊎_elim
      (λ dead. dead_around v wins reach.0 around (end_of v there) reach.1 reach.2 dead closed.walk lost)
      (λ live. live_around v wins reach.0 around (end_of v there) reach.1 reach.2 live closed lost)
      (dead_or_live nodes (end_of v there))

-- and it is one there
pub region_completed : (nodes : List Node) (player : Player) (v : ℕ) → InOpenRegion nodes player v → InRegion (completed_nodes nodes) player v
region_completed nodes player v region = record {
  node = omega (arith, region.node, length_completed nodes);
  choices = region.choices;
  strategy = record {
    entries = region.strategy.entries ∙ sym (length_completed nodes);
    owned = λ u w chosen. owner_same nodes u ∙ region.strategy.owned u w chosen;
    listed = λ u w chosen. edge_kept nodes u w (region.strategy.listed u w chosen);
  };
  wins = wins_completed nodes player region.choices v region.wins;
}
