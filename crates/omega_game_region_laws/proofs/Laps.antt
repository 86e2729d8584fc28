-- A walk and then a closed walk for ever is a play, and the greatest priority of the closed walk is its limit.
use Rattle.std.proofs.Common.{◌≡◌, ℕ, zero, suc, ◌<◌, ◌≤◌, ◌⊎◌, inl, inr, List, [], ◌∷◌, length, Option, refl, arith, add-one}
use Rattle.std.proofs.lemmas.Bool.{cases_lt}
use Rattle.omega_game_values.specs.declared.player.Player.{Player}
use Rattle.omega_game_values.specs.Game.{Node, priority_at}
use Rattle.omega_game_values.specs.Winning.{Leaves, IsWalk, Wins, end_of, greatest_on}
use Rattle.omega_game_region_laws.specs.Plays.{IsPlay, IsLimit, WinsAllPlays}

-- v and the places after it, then u and the places after it for ever
abbrev pub laps : ℕ → List ℕ → ℕ → List ℕ → ℕ → ℕ
laps u us v ws zero = v
laps u us v [] (suc i) = laps u us u us i
laps u us v (w ∷ ws) (suc i) = laps u us w ws i

module _ (nodes : List Node) (u : ℕ) (us : List ℕ) where
  -- the greatest priority of v and the places after it comes
  attained : (v : ℕ) (ws : List ℕ) → (j : ℕ) × (priority_at nodes (laps u us v ws j) ≡ greatest_on nodes v ws)
  attained v [] = (0, refl)
  attained v (w ∷ ws) = go (attained w ws) (cases_lt (priority_at nodes v) (greatest_on nodes w ws))
    where
      go : (j : ℕ) × (priority_at nodes (laps u us w ws j) ≡ greatest_on nodes w ws)
          → (priority_at nodes v < greatest_on nodes w ws) ⊎ (greatest_on nodes w ws ≤ priority_at nodes v)
          → (j : ℕ) × (priority_at nodes (laps u us v (w ∷ ws) j) ≡ greatest_on nodes v (w ∷ ws))
      go later (inl less) = (suc later.0, omega (arith, later.1))
      go later (inr least) = (0, omega arith)

  -- the greatest priority of a lap comes
  abbrev Comes : ℕ → List ℕ → ℕ → Type 0
  Comes v ws i = (j : ℕ) × (i ≤ j) × (priority_at nodes (laps u us v ws j) ≡ greatest_on nodes u us)

  comes_at_last : (v : ℕ) (ws : List ℕ) → Comes v ws 0
  comes_at_last v [] = let lap = attained u us in (suc lap.0, omega arith, lap.1)
  comes_at_last v (w ∷ ws) = let later = comes_at_last w ws in (suc later.0, omega arith, later.2)

  -- at or after every index
  comes_again : (v : ℕ) (ws : List ℕ) (i : ℕ) → Comes v ws i
  comes_again v ws zero = comes_at_last v ws
  comes_again v [] (suc i) = let later = comes_again u us i in (suc later.0, omega (arith, later.1), later.2)
  comes_again v (w ∷ ws) (suc i) = let later = comes_again w ws i in (suc later.0, omega (arith, later.1), later.2)

  -- no greater one comes while none is on the way
  none_greater : (v : ℕ) (ws : List ℕ) (i : ℕ) → greatest_on nodes v ws ≤ greatest_on nodes u us
      → priority_at nodes (laps u us v ws i) ≤ greatest_on nodes u us
  none_greater v [] zero most = most
  none_greater v (w ∷ ws) zero most = omega arith
  none_greater v [] (suc i) most = none_greater u us i (omega arith)
  none_greater v (w ∷ ws) (suc i) most = none_greater w ws i (omega arith)

  -- nor after the way, if no such priority is at its end
  none_greater_after : (v : ℕ) (ws : List ℕ) (i : ℕ) → length ws ≤ i → priority_at nodes (end_of v ws) ≤ greatest_on nodes u us
      → priority_at nodes (laps u us v ws i) ≤ greatest_on nodes u us
  none_greater_after v [] i following most = none_greater v [] i most
  none_greater_after v (w ∷ ws) zero following most = absurd (omega arith)
  none_greater_after v (w ∷ ws) (suc i) following most = none_greater_after w ws i (omega arith) most

  module _ (player : Player) (choices : List (Option ℕ))
      (lap : IsWalk nodes player choices u us) (again : Leaves nodes player choices (end_of u us) u) where
    -- each step is an edge left possible
    lap_step : (v : ℕ) (ws : List ℕ) (i : ℕ) → IsWalk nodes player choices v ws → Leaves nodes player choices (end_of v ws) u
        → Leaves nodes player choices (laps u us v ws i) (laps u us v ws (suc i))
    lap_step v [] zero walk enters = enters
    lap_step v (w ∷ ws) zero walk enters = walk.0
    lap_step v [] (suc i) walk enters = lap_step u us i lap again
    lap_step v (w ∷ ws) (suc i) walk enters = lap_step w ws i walk.1 enters

    laps_play : (v : ℕ) (ws : List ℕ) → IsWalk nodes player choices v ws → Leaves nodes player choices (end_of v ws) u
        → IsPlay nodes player choices v (laps u us v ws)
    laps_play v ws walk enters = record { first = refl; steps = λ i. rw add-one (lap_step v ws i walk enters) }

  laps_limit : (v : ℕ) (ws : List ℕ) → priority_at nodes (end_of v ws) ≤ greatest_on nodes u us
      → IsLimit nodes (laps u us v ws) (greatest_on nodes u us)
  laps_limit v ws most = record {
    recurring = comes_again v ws;
    from = length ws;
    none_greater = λ i following. none_greater_after v ws i following most;
  }

-- no less than the last priority
end_le : (nodes : List Node) (v : ℕ) (ws : List ℕ) → priority_at nodes (end_of v ws) ≤ greatest_on nodes v ws
end_le nodes v [] = omega arith
end_le nodes v (w ∷ ws) = omega (arith, end_le nodes w ws)

-- a strategy that wins all plays from v wins from v
pub plays_win : (nodes : List Node) (player : Player) (choices : List (Option ℕ)) (v : ℕ)
    → WinsAllPlays nodes player choices v → Wins nodes player choices v
plays_win nodes player choices v wins there [] walk closed lost = absurd (omega (arith, closed.longer))
plays_win nodes player choices v wins there (u ∷ us) walk closed lost =
    let enters = closed.walk.0 in
    let round : end_of u us ≡ end_of v there = closed.closed in
    let most : priority_at nodes (end_of v there) ≤ greatest_on nodes u us = rw (← round) (end_le nodes u us) in
    let same : greatest_on nodes (end_of v there) (u ∷ us) ≡ greatest_on nodes u us = omega arith in
    wins (laps u us v there) (greatest_on nodes u us)
    (laps_play nodes u us player choices closed.walk.1 (rw round enters) v there walk enters)
    (laps_limit nodes u us v there most)
    (rw same at lost)
