-- Who wins in the completed game wins where there are dead ends.
use Rattle.std.proofs.Common.{◌≡◌, ℕ, ◌<◌, ⊎_elim, Option, List, [], ◌∷◌, length, refl, ap, ap₂, sym, ◌∙◌, subst, arith}
use Rattle.std.specs.Prelude.{IsTrue, max}
use Rattle.omega_game_values.specs.Game.{Node, owner_at, priority_at, successors_at}
use Rattle.omega_game_values.specs.Player.{loses}
use Rattle.omega_game_values.specs.Winning.{InRegion, IsStrategy, IsWalk, Leaves, Wins, end_of, greatest_on}
use Rattle.omega_game_values.specs.declared.player.Player.{Player}
use Rattle.omega_pg_lenient.specs.DeadEnds.{losing_priority}
use Rattle.omega_pg_lenient.specs.Playing.{CompletionKeepsWinners, InOpenRegion, IsDeadEnd, completed_nodes}
use Rattle.omega_pg_lenient.proofs.playing.Choices.{chosen_kept, kept, kept_chosen, length_kept}
use Rattle.omega_pg_lenient.proofs.playing.Completed.{dead_edge, dead_only, dead_priority, edge_cases, edge_kept, edge_live, end_inside, length_completed, live_same, losing_for_owner, owner_same}
use Rattle.omega_pg_lenient.proofs.playing.Forth.{region_completed}

module _ (nodes : List Node) (player : Player) (choices : List (Option ℕ)) where
  -- an edge that the kept choices leave possible is left possible in the completed game
  left_completed : (v w : ℕ) → Leaves nodes player (kept nodes choices) v w → Leaves (completed_nodes nodes) player choices v w
  left_completed v w leaves = record {
    listed = edge_kept nodes v w leaves.listed;
    chosen = λ owns choice chosen. leaves.chosen (sym (owner_same nodes v) ∙ owns) choice
        (chosen_kept nodes choices v choice (edge_live nodes v w leaves.listed) chosen);
  }

  -- so is a walk
  walk_completed : (v : ℕ) (ws : List ℕ) → IsWalk nodes player (kept nodes choices) v ws → IsWalk (completed_nodes nodes) player choices v ws
  walk_completed v [] walk = omega (arith, walk, length_completed nodes)
  walk_completed v (w ∷ ws) walk = (left_completed v w walk.0, walk_completed w ws walk.1)

  -- and on one that ends at a node with successors the priorities stay
  greatest_completed : (v : ℕ) (ws : List ℕ) → IsWalk nodes player (kept nodes choices) v ws → 0 < length (successors_at nodes (end_of v ws))
      → greatest_on (completed_nodes nodes) v ws ≡ greatest_on nodes v ws
  greatest_completed v [] walk live = ap (λ (node : Node). node.priority) (live_same nodes v live)
  greatest_completed v (w ∷ ws) walk live =
      ap₂ max (ap (λ (node : Node). node.priority) (live_same nodes v (edge_live nodes v w walk.0.listed))) (greatest_completed w ws walk.1 live)

  -- a closed walk begins at a node with successors
  closed_live : (v : ℕ) (ws : List ℕ) → IsWalk nodes player (kept nodes choices) v ws → 0 < length ws → 0 < length (successors_at nodes v)
  closed_live v [] walk longer = absurd (omega (arith, longer))
  closed_live v (w ∷ ws) walk longer = edge_live nodes v w walk.0.listed

  -- a dead end of the player is not come to, since the walk around it would lose
  never_stuck : (v : ℕ) → IsStrategy (completed_nodes nodes) player choices → Wins (completed_nodes nodes) player choices v → (there : List ℕ)
      → IsWalk nodes player (kept nodes choices) v there → IsDeadEnd nodes (end_of v there) → owner_at nodes (end_of v there) ≡ player → ⊥
  never_stuck v strategy wins there walk dead owns =
      let e = end_of v there in
      let inside = end_inside nodes player (kept nodes choices) v there walk in
      let priority : priority_at (completed_nodes nodes) e ≡ losing_priority player =
      dead_priority nodes e inside dead ∙ ap losing_priority owns in
      let greatest : greatest_on (completed_nodes nodes) e (e ∷ []) ≡ losing_priority player = omega (arith, priority) in
      let edge : Leaves (completed_nodes nodes) player choices e e = record {
        listed = dead_edge nodes e inside dead;
        chosen = λ _ choice chosen. sym (dead_only nodes e choice inside dead (strategy.listed e choice chosen));
      } in
      wins there (e ∷ []) (walk_completed v there walk)
      (record { walk = (edge, omega (arith, inside, length_completed nodes)); longer = omega arith; closed = refl })
      (subst (λ q. IsTrue (loses player q)) (sym greatest) (losing_for_owner player))

  -- and those that go on forever are won
  forever : (v : ℕ) → Wins (completed_nodes nodes) player choices v → Wins nodes player (kept nodes choices) v
  forever v wins there around walk closed lost =
      let e = end_of v there in
      let live : 0 < length (successors_at nodes (end_of e around)) =
      subst (λ u. 0 < length (successors_at nodes u)) (sym closed.closed) (closed_live e around closed.walk closed.longer) in
      wins there around (walk_completed v there walk)
      (record { walk = walk_completed e around closed.walk; longer = closed.longer; closed = closed.closed })
      (subst (λ q. IsTrue (loses player q)) (sym (greatest_completed e around closed.walk live)) lost)

  -- the kept choices are a strategy of the game
  strategy_kept : IsStrategy (completed_nodes nodes) player choices → IsStrategy nodes player (kept nodes choices)
  strategy_kept strategy = record {
    entries = length_kept nodes choices (strategy.entries ∙ length_completed nodes);
    owned = λ v w chosen. sym (owner_same nodes v) ∙ strategy.owned v w (kept_chosen nodes choices v w chosen).0;
    listed = λ v w chosen.
        let was = kept_chosen nodes choices v w chosen in
        ⊎_elim
        (λ edge. edge)
        (λ stays. absurd (omega (arith, was.1, ap length stays.0)))
        (edge_cases nodes v w (strategy.listed v w was.0));
  }

-- who wins in the completed game wins in the game
region_open : (nodes : List Node) (player : Player) (v : ℕ) → InRegion (completed_nodes nodes) player v → InOpenRegion nodes player v
region_open nodes player v region = record {
  node = omega (arith, region.node, length_completed nodes);
  choices = kept nodes region.choices;
  strategy = strategy_kept nodes player region.choices region.strategy;
  wins = record {
    never_stuck = never_stuck nodes player region.choices v region.strategy region.wins;
    forever = forever nodes player region.choices v region.wins;
  };
}

-- so the same player wins
pub winners_kept : CompletionKeepsWinners
winners_kept nodes player v = (region_completed nodes player v, region_open nodes player v)
