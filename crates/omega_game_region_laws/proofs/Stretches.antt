-- Stretches of plays are walks: a limit that loses is at one place at two indices, and a losing closed walk lies
-- between them.
use Rattle.std.proofs.Common.{◌≡◌, ℕ, zero, suc, ◌+◌, ◌-◌, ◌<◌, ◌≤◌, ◌⊎◌, inl, inr, List, [], ◌∷◌, length, Option, IsTrue, sym, ap, ◌∙◌, subst, arith, add-one}
use Rattle.std.proofs.lemmas.Bool.{cases_lt}
use Rattle.std.proofs.lemmas.List.{get_or_past}
use Rattle.omega_game_values.specs.declared.player.Player.{Player}
use Rattle.omega_game_values.specs.Game.{Node, HasEdge, node_at, no_node, successors_at, priority_at}
use Rattle.omega_game_values.specs.Player.{loses}
use Rattle.omega_game_values.specs.Winning.{Leaves, IsWalk, Wins, end_of, greatest_on}
use Rattle.omega_game_region_laws.specs.Plays.{IsPlay, IsRecurring, IsLimit, WinsAllPlays}
use Rattle.omega_game_region_laws.proofs.Pigeonhole.{Repeats, repeats}

-- what has an edge is a node
pub edge_below : (nodes : List Node) (v w : ℕ) → HasEdge nodes v w → v < length nodes
edge_below nodes v w edge = go (cases_lt v (length nodes))
  where
    go : (v < length nodes) ⊎ (length nodes ≤ v) → v < length nodes
    go (inl below) = below
    go (inr past) =
        let none : node_at nodes v ≡ no_node = get_or_past nodes v no_node past in
        let bare : length (successors_at nodes v) ≡ 0 = ap {B = ℕ} (λ node. length node.successors) none in
        absurd (omega (arith, edge.1))

-- the d places after index i
abbrev pub stretch : (ℕ → ℕ) → ℕ → ℕ → List ℕ
stretch play i zero = []
stretch play i (suc d) = play (suc i) ∷ stretch play (suc i) d

-- some of them are some
longer_stretch : (play : ℕ → ℕ) (i d : ℕ) → 0 < d → 0 < length (stretch play i d)
longer_stretch play i zero h = absurd (omega arith)
longer_stretch play i (suc d) h = omega arith

-- the last of them is the place at index i + d
end-stretch : (play : ℕ → ℕ) (i d : ℕ) → end_of (play i) (stretch play i d) ≡ play (i + d)
end-stretch play i zero = let e : i + 0 ≡ i = omega arith in rw e
end-stretch play i (suc d) = let e : i + suc d ≡ suc i + d = omega arith in rw e (end-stretch play (suc i) d)

-- no less than the first priority
le-greatest : (nodes : List Node) (v : ℕ) (ws : List ℕ) → priority_at nodes v ≤ greatest_on nodes v ws
le-greatest nodes v [] = omega arith
le-greatest nodes v (w ∷ ws) = omega arith

-- no greater than what bounds all priorities from index i on
greatest_le : (nodes : List Node) (play : ℕ → ℕ) (p i d : ℕ) → ((j : ℕ) → i ≤ j → priority_at nodes (play j) ≤ p)
    → greatest_on nodes (play i) (stretch play i d) ≤ p
greatest_le nodes play p i zero bound = bound i (omega arith)
greatest_le nodes play p i (suc d) bound =
    omega (arith, bound i (omega arith), greatest_le nodes play p (suc i) d (λ j h. bound j (omega arith)))

-- later and later indices at which the priority comes
abbrev coming : (nodes : List Node) (play : ℕ → ℕ) (p : ℕ) → IsRecurring nodes play p → ℕ → ℕ → ℕ
coming nodes play p recurring from zero = (recurring from).0
coming nodes play p recurring from (suc k) = (recurring (suc (coming nodes play p recurring from k))).0

module _ (nodes : List Node) (play : ℕ → ℕ) (p : ℕ) (recurring : IsRecurring nodes play p) (from : ℕ) where
  -- the priority comes there
  comes : (k : ℕ) → priority_at nodes (play (coming nodes play p recurring from k)) ≡ p
  comes zero = (recurring from).2
  comes (suc k) = (recurring (suc (coming nodes play p recurring from k))).2

  -- they rise
  rises : (k d : ℕ) → coming nodes play p recurring from k + d ≤ coming nodes play p recurring from (k + d)
  rises k zero = let e : k + 0 ≡ k = omega arith in rw e (omega arith)
  rises k (suc d) =
      let e : k + suc d ≡ suc (k + d) = omega arith in
      let next = (recurring (suc (coming nodes play p recurring from (k + d)))).1 in
      rw e (omega (arith, rises k d, next))

  -- from the given index on
  starts : (k : ℕ) → from ≤ coming nodes play p recurring from k
  starts zero = (recurring from).1
  starts (suc k) =
      let next = (recurring (suc (coming nodes play p recurring from k))).1 in
      omega (arith, starts k, next)

module _ (nodes : List Node) (player : Player) (choices : List (Option ℕ)) (v : ℕ) (play : ℕ → ℕ) (is_play : IsPlay nodes player choices v play) where
  -- a step, with the next index as a successor
  step : (i : ℕ) → Leaves nodes player choices (play i) (play (suc i))
  step i = rw add-one at (is_play.steps i)

  -- a play stays in the game
  pub inside : (i : ℕ) → play i < length nodes
  inside i = edge_below nodes (play i) (play (suc i)) (step i).listed

  -- a stretch is a walk
  stretch_walk : (i d : ℕ) → IsWalk nodes player choices (play i) (stretch play i d)
  stretch_walk i zero = inside i
  stretch_walk i (suc d) = (step i, stretch_walk (suc i) d)

  -- one place at two indices: a strategy that wins from v wins the closed walk between them
  closed_between : Wins nodes player choices v → (i d : ℕ) → 0 < d → play i ≡ play (i + d)
      → IsTrue (loses player (greatest_on nodes (play i) (stretch play i d))) → ⊥
  closed_between wins i d further same lost =
      let start : play 0 ≡ v = is_play.first in
      let arrives : end_of v (stretch play 0 i) ≡ play i = rw (← start) (end-stretch play 0 i ∙ ap play (omega arith)) in
      wins (stretch play 0 i) (stretch play i d)
      (subst (λ u. IsWalk nodes player choices u (stretch play 0 i)) start (stretch_walk 0 i))
      (rw arrives (record {
        walk = stretch_walk i d;
        longer = longer_stretch play i d further;
        closed = end-stretch play i d ∙ sym same;
      }))
      (rw arrives lost)

  module _ (p : ℕ) (limit : IsLimit nodes play p) where
    -- the indices at which the limit comes
    abbrev visit : ℕ → ℕ
    visit = coming nodes play p limit.recurring limit.from

    -- the greatest priority of a stretch from one of them is the limit
    greatest_is : (k d : ℕ) → greatest_on nodes (play (visit k)) (stretch play (visit k) d) ≡ p
    greatest_is k d =
        let following = starts nodes play p limit.recurring limit.from k in
        let here = comes nodes play p limit.recurring limit.from k in
        let least = le-greatest nodes (play (visit k)) (stretch play (visit k) d) in
        let most = greatest_le nodes play p (visit k) d (λ j h. limit.none_greater j (omega arith)) in
        omega (arith, here, least, most)

    -- two of them at one place close a walk whose greatest priority is the limit
    wins_limit : Wins nodes player choices v → Repeats (λ k. play (visit k)) (length nodes) → IsTrue (loses player p) → ⊥
    wins_limit wins repeat lost =
        let apart : repeat.first + (repeat.second - repeat.first) ≡ repeat.second = omega arith in
        let risen : visit repeat.first + (repeat.second - repeat.first) ≤ visit repeat.second =
        rw apart at (rises nodes play p limit.recurring limit.from repeat.first (repeat.second - repeat.first)) in
        let d = visit repeat.second - visit repeat.first in
        let further : 0 < d = omega arith in
        let sum : visit repeat.first + d ≡ visit repeat.second = omega arith in
        closed_between wins (visit repeat.first) d further (rw sum repeat.same) (rw (greatest_is repeat.first d) lost)

    -- among enough of them two are at one place
    limit_won : Wins nodes player choices v → IsTrue (loses player p) → ⊥
    limit_won wins = wins_limit wins (repeats (length nodes) (λ k. play (visit k)) (λ k h. inside (visit k)))

-- a strategy that wins from v wins all plays from v
pub wins_plays : (nodes : List Node) (player : Player) (choices : List (Option ℕ)) (v : ℕ)
    → Wins nodes player choices v → WinsAllPlays nodes player choices v
wins_plays nodes player choices v wins play p is_play limit = limit_won nodes player choices v play is_play p limit wins
