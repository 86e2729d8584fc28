-- A play has a least recurring priority exactly if it has a greatest one in the game whose priorities are turned.
use Rattle.std.proofs.Common.{◌≡◌, ◌↔◌, ℕ, ◌+◌, ◌<◌, ◌≤◌, inl, inr, List, Option, length, ap, sym, ◌∙◌, arith}
use Rattle.std.proofs.lemmas.Bool.{cases_lt}
use Rattle.omega_game_values.specs.declared.player.Player.{Player}
use Rattle.omega_game_values.specs.Bound.{priorities_in_use}
use Rattle.omega_game_values.specs.Game.{Node, priorities, priority_at}
use Rattle.omega_game_values.specs.Player.{loses}
use Rattle.omega_game_region_laws.specs.Plays.{IsLimit, IsPlay, WinningMeansAllPlays, WinsAllPlays}
use Rattle.omega_answers_game.specs.LeastPlays.{IsLeastLimit, LeastWinningMeansAllPlays, WinsAllPlaysByLeast}
use Rattle.omega_answers_game.specs.LeastPriorityLaws.{TurnedGamesWinAlike}
use Rattle.omega_answers_game.specs.Turning.{turned_game, turned_priority}
use Rattle.omega_answers_game.proofs.TurnedGames.{AreAlike, alike-back, alike-turned, in-use, leaves-alike, left-inside, priority-turned}
use Rattle.omega_answers_game.proofs.TurnedPriorities.{IsAmong, turned-loses, turned-order}

-- games with the same owners and edges have the same plays
play-alike : (nodes others : List Node) → AreAlike nodes others → (player : Player) (choices : List (Option ℕ)) (v : ℕ) (play : ℕ → ℕ)
    → IsPlay nodes player choices v play → IsPlay others player choices v play
play-alike nodes others alike player choices v play is = record {
  first = is.first;
  steps = λ i. leaves-alike nodes others alike player choices (play i) (play (i + 1)) (is.steps i);
}

module _ (nodes : List Node) (player : Player) (choices : List (Option ℕ)) (v : ℕ) (play : ℕ → ℕ) (is : IsPlay nodes player choices v play) where
  abbrev turned_at : ℕ → ℕ
  turned_at p = turned_priority (priorities nodes) p

  -- each place of the play is a node
  play-inside : (i : ℕ) → play i < length nodes
  play-inside i = left-inside nodes (play i) (play (i + 1)) (is.steps i).listed

  used : (i : ℕ) → IsAmong (priority_at nodes (play i)) (priorities_in_use (priorities nodes))
  used i = in-use nodes (play i) (play-inside i)

  turned-there : (i : ℕ) → priority_at (turned_game nodes) (play i) ≡ turned_at (priority_at nodes (play i))
  turned-there i = priority-turned nodes (play i) (play-inside i)

  -- a priority that is no less than another in use is turned into one that is no greater
  turned-below : (p : ℕ) (i : ℕ) → p ≤ priority_at nodes (play i) → turned_at (priority_at nodes (play i)) ≤ turned_at p
  turned-below p i le =
      elim (cases_lt p (priority_at nodes (play i))) as (λ _. turned_at (priority_at nodes (play i)) ≤ turned_at p) [
        | inl less ↦ (let order = turned-order (priorities nodes) p (priority_at nodes (play i)) less (used i) in omega (arith, order))
        | inr most ↦ (
            let same : priority_at nodes (play i) ≡ p = omega (arith, le, most) in
            let alike : turned_at (priority_at nodes (play i)) ≡ turned_at p = ap turned_at same in omega (arith, alike))
      ]

  -- the least recurring priority is turned into the greatest
  pub limit-turned : (p : ℕ) → IsLeastLimit nodes play p → IsLimit (turned_game nodes) play (turned_at p)
  limit-turned p least = record {
    recurring = λ i. let found = least.recurring i in (found.0, found.1, turned-there found.0 ∙ ap turned_at found.2);
    from = least.from;
    none_greater = λ i late.
        let below = turned-below p i (least.none_less i late) in omega (arith, below, turned-there i);
  }

  -- what is turned into no greater a priority than that of a place is no less
  back-above : (i j : ℕ) → turned_at (priority_at nodes (play i)) ≤ turned_at (priority_at nodes (play j))
      → priority_at nodes (play j) ≤ priority_at nodes (play i)
  back-above i j le =
      elim (cases_lt (priority_at nodes (play i)) (priority_at nodes (play j))) as (λ _. priority_at nodes (play j) ≤ priority_at nodes (play i)) [
        | inl less ↦ (let order = turned-order (priorities nodes) (priority_at nodes (play i)) (priority_at nodes (play j)) less (used j) in absurd (omega (arith, order, le)))
        | inr most ↦ most
      ]

  -- and the greatest recurring priority is that of a place, whose priority is the least recurring one
  pub limit-back : (p : ℕ) → IsLimit (turned_game nodes) play p → (q : ℕ) × (turned_at q ≡ p) × IsLeastLimit nodes play q
  limit-back p limit =
      let (j, late, there) = limit.recurring limit.from in
      let q : ℕ = priority_at nodes (play j) in
      let same : turned_at q ≡ p = sym (turned-there j) ∙ there in (
        q,
        same,
        record {
          recurring = λ i.
              let (k, behind, here) = limit.recurring i in
              let turned_k : turned_at (priority_at nodes (play k)) ≡ turned_at q = sym (turned-there k) ∙ here ∙ sym same in
              let one = back-above k j (omega (arith, turned_k)) in
              let other = back-above j k (omega (arith, turned_k)) in
              (k, behind, omega (arith, one, other));
          from = limit.from;
          none_less = λ i past.
              let most = limit.none_greater i past in
              back-above i j (omega (arith, most, same, turned-there i));
        },
      )

-- so winning all plays is the same
plays-turned : (nodes : List Node) (player : Player) (choices : List (Option ℕ)) (v : ℕ)
    → WinsAllPlays (turned_game nodes) player choices v ↔ WinsAllPlaysByLeast nodes player choices v
plays-turned nodes player choices v = (
  (λ wins play p is least lost.
      wins play (turned_priority (priorities nodes) p) (play-alike nodes (turned_game nodes) (alike-turned nodes) player choices v play is)
      (limit-turned nodes player choices v play is p least) (turned-loses (priorities nodes) player p ∙ lost)),
  (λ wins play p is limit lost.
      let here = play-alike (turned_game nodes) nodes (alike-back nodes (turned_game nodes) (alike-turned nodes)) player choices v play is in
      let (q, same, least) = limit-back nodes player choices v play here p limit in
      wins play q here least (sym (turned-loses (priorities nodes) player q) ∙ ap (loses player) same ∙ lost)),
)

pub least-plays : WinningMeansAllPlays → TurnedGamesWinAlike → LeastWinningMeansAllPlays
least-plays means alike nodes player choices v =
    let turned : WinsAllPlays (turned_game nodes) player choices v ↔ WinsAllPlaysByLeast nodes player choices v = plays-turned nodes player choices v in
    let walks = (alike nodes player choices).1 v in
    let plays = means (turned_game nodes) player choices v in
    ((λ wins. turned.0 (plays.0 (walks.0 wins))), (λ wins. walks.1 (plays.1 (turned.1 wins))))
