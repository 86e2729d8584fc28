-- Parity games are determined: the split of all places gives each player a strategy that wins from
-- every place of that player.
use Rattle.std.proofs.Common.{◌≡◌, ℕ, ◌<◌, ◌⊎◌, inl, inr, Bool, true, cond, ◌&&◌, List, [], ◌∷◌, length, Option, Some, None, IsTrue, nat_lt, slice_index, sym, ◌∙◌, subst, le_refl, lt-ltb, ltb-true}
use Rattle.std.proofs.lemmas.Bool.{and_from, and_parts, cond-true}
use Rattle.std.proofs.lemmas.Option.{cond_some}
use Rattle.omega_game_values.specs.declared.player.Player.{Player}
use Rattle.omega_game_values.specs.declared.player.Player.TheVariants.{Zero, One}
use Rattle.omega_game_values.specs.Game.{Node, IsGame, HasEdge, owner_at, successors_at}
use Rattle.omega_game_values.specs.Winning.{IsStrategy, Leaves, IsWalk, Wins, InRegion, end_of, greatest_on}
use Rattle.omega_game_values.specs.Player.{loses}
use Rattle.omega_game_region_laws.proofs.Apart.{apart}
use Rattle.omega_game_region_laws.proofs.Choices.{entries_of, length_entries, picked, picks}
use Rattle.omega_game_region_laws.proofs.Following.{first_listed}
use Rattle.omega_game_region_laws.proofs.Places.{size}
use Rattle.omega_game_values.specs.Player.{opponent_of}
use Rattle.omega_game_region_laws.proofs.Players.{cases_player, is_player, is_player-true, is_player-same}
use Rattle.omega_game_region_laws.proofs.Split.{IsSubgame, Split, Goes}
use Rattle.omega_game_region_laws.proofs.Tours.{IsTour}
use Rattle.omega_game_region_laws.proofs.Zielonka.{split_of}

-- all places
abbrev everywhere : List Node → ℕ → Bool
everywhere nodes v = nat_lt v (length nodes)

-- they are a subgame
whole : (nodes : List Node) → IsGame nodes → IsSubgame nodes (everywhere nodes)
whole nodes game = record {
  inside = λ v here. ltb-true v (length nodes) here;
  continued = λ v here.
      let edge = first_listed nodes v game (ltb-true v (length nodes) here) in
      (slice_index (successors_at nodes v) 0, edge, lt-ltb _ _ (game.closed v (slice_index (successors_at nodes v) 0) edge));
}

-- the split of all places
pub split_of_game : (nodes : List Node) → IsGame nodes → Split nodes (everywhere nodes)
split_of_game nodes game = split_of nodes (size (everywhere nodes) (length nodes)) (everywhere nodes) (whole nodes game) (le_refl _)

module _ (nodes : List Node) (game : IsGame nodes) (split : Split nodes (everywhere nodes)) (player : Player) where
  -- whether the player owns and wins a place
  abbrev is_chosen : ℕ → Bool
  is_chosen v = is_player (owner_at nodes v) player && is_player (split.winner v) player

  -- the choice at such a place
  abbrev pick : ℕ → Option ℕ
  pick v = cond (is_chosen v) (Some (split.choice v)) None

  -- the choices of the split at the places that the player owns and wins
  abbrev pub choices : List (Option ℕ)
  choices = entries_of pick (length nodes)

  -- where a choice comes from
  record IsPick (v w : ℕ) : Type 0 where
    owns : owner_at nodes v ≡ player
    wins : split.winner v ≡ player
    is : split.choice v ≡ w

  -- each choice is that of the split at such a place
  pick_from : (v w : ℕ) → pick v ≡ Some w → IsPick v w
  pick_from v w chose =
      let is = cond_some (is_chosen v) (split.choice v) w chose in
      let parts = and_parts (is_player (owner_at nodes v) player) (is_player (split.winner v) player) is.0 in
      record { owns = is_player-true _ _ parts.0; wins = is_player-true _ _ parts.1; is = is.1 }

  -- and each such place has it
  pick_to : (v : ℕ) → owner_at nodes v ≡ player → split.winner v ≡ player → pick v ≡ Some (split.choice v)
  pick_to v owns wins =
      cond-true (is_chosen v) (Some (split.choice v)) None
      (and_from _ _ (subst (λ p. is_player p player ≡ true) (sym owns) (is_player-same player))
      (subst (λ p. is_player p player ≡ true) (sym wins) (is_player-same player)))

  -- they are a strategy
  pub strategy_of_split : IsStrategy nodes player choices
  strategy_of_split = record {
    entries = length_entries pick (length nodes);
    owned = λ v w chose. (pick_from v w (picked pick (length nodes) v w chose).1).owns;
    listed = λ v w chose.
        let at = picked pick (length nodes) v w chose in
        let from = pick_from v w at.1 in
        subst (λ u. HasEdge nodes v u) from.is (split.chosen v (lt-ltb _ _ at.0) (from.owns ∙ sym from.wins)).0;
  }

  -- what the choices leave possible at the player's places is a step of the split
  goes_if_left : (v w : ℕ) → v < length nodes → split.winner v ≡ player → Leaves nodes player choices v w → Goes nodes split.winner split.choice v w
  goes_if_left v w below wins left = (
    left.listed,
    λ owns.
        left.chosen (owns ∙ wins) (split.choice v) (picks pick (length nodes) v (split.choice v) below (pick_to v (owns ∙ wins) wins)),
  )

  -- which leads to the player's places
  won_onward : (v w : ℕ) → v < length nodes → split.winner v ≡ player → Leaves nodes player choices v w → split.winner w ≡ player
  won_onward v w below wins left =
      split.kept v w (lt-ltb _ _ below) (lt-ltb _ _ (game.closed v w left.listed)) (goes_if_left v w below wins left) ∙ wins

  -- so a walk from such a place is a tour
  tour_of_walk : (v : ℕ) (ws : List ℕ) → v < length nodes → split.winner v ≡ player → IsWalk nodes player choices v ws
      → IsTour (everywhere nodes) (Goes nodes split.winner split.choice) v ws
  tour_of_walk v [] below wins walk = lt-ltb _ _ below
  tour_of_walk v (w ∷ ws) below wins walk = (
    lt-ltb _ _ below,
    goes_if_left v w below wins walk.0,
    tour_of_walk w ws (game.closed v w walk.0.listed) (won_onward v w below wins walk.0) walk.1,
  )

  -- and ends at one
  end_won : (v : ℕ) (ws : List ℕ) → v < length nodes → split.winner v ≡ player → IsWalk nodes player choices v ws
      → (end_of v ws < length nodes) × (split.winner (end_of v ws) ≡ player)
  end_won v [] below wins walk = (below, wins)
  end_won v (w ∷ ws) below wins walk = end_won w ws (game.closed v w walk.0.listed) (won_onward v w below wins walk.0) walk.1

  -- the choices win from each place of the player
  pub wins_by_split : (v : ℕ) → v < length nodes → split.winner v ≡ player → Wins nodes player choices v
  wins_by_split v below wins there around walk closed lost =
      let start = end_won v there below wins walk in
      split.won (end_of v there) around
      (tour_of_walk (end_of v there) around start.0 start.1 closed.walk) closed.longer closed.closed
      (subst (λ p. IsTrue (loses p (greatest_on nodes (end_of v there) around))) (sym start.1) lost)

  -- so the places are in the player's region
  pub region_of_split : (v : ℕ) → v < length nodes → split.winner v ≡ player → InRegion nodes player v
  region_of_split v below wins = record {
    node = below;
    choices = choices;
    strategy = strategy_of_split;
    wins = wins_by_split v below wins;
  }

-- each node is in the region of one of the players
pub covered : (nodes : List Node) (v : ℕ) → IsGame nodes → v < length nodes → InRegion nodes Zero v ⊎ InRegion nodes One v
covered nodes v game below = go (cases_player (split.winner v) Zero)
  where
    split : Split nodes (everywhere nodes)
    split = split_of_game nodes game

    go : (split.winner v ≡ Zero) ⊎ (split.winner v ≡ opponent_of Zero) → InRegion nodes Zero v ⊎ InRegion nodes One v
    go (inl zero_wins) = inl (region_of_split nodes game split Zero v below zero_wins)
    go (inr one_wins) = inr (region_of_split nodes game split One v below one_wins)

-- no node is in a player's region and the other's
apart_from_others : (nodes : List Node) (player : Player) (v : ℕ) → IsGame nodes → InRegion nodes player v → InRegion nodes (opponent_of player) v → ⊥
apart_from_others nodes Zero v game mine theirs = apart nodes v game mine theirs
apart_from_others nodes One v game mine theirs = apart nodes v game theirs mine

-- a player has one strategy that wins from each node of the player's region
pub won_at_once : (nodes : List Node) (player : Player) → IsGame nodes
    → (choices : List (Option ℕ)) × IsStrategy nodes player choices × ((v : ℕ) → InRegion nodes player v → Wins nodes player choices v)
won_at_once nodes player game =
    (choices nodes game split player, strategy_of_split nodes game split player, λ v region. go v region (cases_player (split.winner v) player))
  where
    split : Split nodes (everywhere nodes)
    split = split_of_game nodes game

    go : (v : ℕ) → InRegion nodes player v → (split.winner v ≡ player) ⊎ (split.winner v ≡ opponent_of player) → Wins nodes player (choices nodes game split player) v
    go v region (inl wins) = wins_by_split nodes game split player v region.node wins
    go v region (inr loses_here) =
        absurd (apart_from_others nodes player v game region (region_of_split nodes game split (opponent_of player) v region.node loses_here))
