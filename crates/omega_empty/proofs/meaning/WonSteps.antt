-- Steps from a state's node that player 0 wins: by any strategy that wins,
-- an edge's node and then that of the state that it enters.
use Rattle.std.proofs.Common.{◌≡◌, ℕ, ◌%◌, ◌⊎◌, inl, inr, [], ◌∷◌, List, Option, sym, ap, ◌∙◌, arith, eq-eqb}
use Rattle.omega_hoa_automaton.specs.Automaton.{Description, IsAutomaton}
use Rattle.omega_game_values.specs.Game.{Node}
use Rattle.omega_game_values.specs.Winning.{IsClosedWalk, Leaves, Wins, greatest_on}
use Rattle.omega_game_values.specs.declared.player.Player.TheVariants.{Zero}
use Rattle.omega_game_region_laws.proofs.Walks.{wins_onward}
use Rattle.omega_empty.specs.EmptinessGame.{IsEmptinessGame}
use Rattle.omega_empty.proofs.playing.Places.{same_place}
use Rattle.omega_empty.proofs.meaning.Accepting.{single}
use Rattle.omega_empty.proofs.meaning.Reading.{sink_greatest}
use Rattle.omega_empty.proofs.meaning.Steps.{AtSink, AtState, Entering, Leaving, leaves_edge, leaves_sink, leaves_state}

module _ (a : Description) (game : List Node) (automaton : IsAutomaton a) (is : IsEmptinessGame a game) (choices : List (Option ℕ)) where
  -- two steps from a state's node pass an edge that leaves the state, and lead to the node of the state that it enters,
  -- which is won too
  pub record IsWonStep (w u counter state : ℕ) : Type 0 where
    pub leaving : Leaving is.kind a is.usable game automaton is.usable_are is.game_is w counter state
    pub entering : Entering is.kind a is.usable game automaton is.usable_are is.game_is u counter leaving.edge
    pub kept : Wins game Zero choices u

  -- who wins does not step into the sink, which loses
  not_into_sink : (v w u : ℕ) → Wins game Zero choices v → Leaves game Zero choices v w → Leaves game Zero choices w u
      → AtSink is.kind a is.usable game automaton is.usable_are is.game_is w → ⊥
  not_into_sink v w u wins first second sink =
      let again = leaves_sink is.kind a is.usable game automaton is.usable_are is.game_is w u sink second.listed in
      let same : u ≡ w = same_place game u w is.game_is.game.rising again.place_below sink.place_below (again.named ∙ sym sink.named) in
      let closed : IsClosedWalk game Zero choices w (u ∷ []) = record { walk = (second, again.place_below); longer = omega arith; closed = same } in
      let one : greatest_on game w (u ∷ []) ≡ 1 =
      sink_greatest is.kind a is.usable game automaton is.usable_are is.game_is (single a game automaton is) Zero choices w (u ∷ []) sink closed.walk in
      wins (w ∷ []) (u ∷ []) (first, sink.place_below) closed (eq-eqb (greatest_on game w (u ∷ []) % 2) 1 (ap (λ n. n % 2) one))

  pub won_step : (v w u counter state : ℕ) → AtState is.kind a is.usable game automaton is.usable_are is.game_is v counter state
      → Wins game Zero choices v → Leaves game Zero choices v w → Leaves game Zero choices w u → IsWonStep w u counter state
  won_step v w u counter state at wins first second =
      go (leaves_state is.kind a is.usable game automaton is.usable_are is.game_is v w counter state at first.listed)
    where
      go : AtSink is.kind a is.usable game automaton is.usable_are is.game_is w ⊎ Leaving is.kind a is.usable game automaton is.usable_are is.game_is w counter state
          → IsWonStep w u counter state
      go (inl sink) = absurd (not_into_sink v w u wins first second sink)
      go (inr leaving) = record {
        leaving = leaving;
        entering = leaves_edge is.kind a is.usable game automaton is.usable_are is.game_is w u counter leaving.number leaving.edge leaving.at_edge
            (single a game automaton is leaving.number leaving.edge leaving.at_edge.numbered) second.listed;
        kept = wins_onward game Zero choices w u second (wins_onward game Zero choices v w first wins);
      }
