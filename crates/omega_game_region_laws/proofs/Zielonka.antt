-- Each subgame has a split: Zielonka's induction (W. Zielonka 1998), on the number of places.
use Rattle.std.proofs.Common.{◌≡◌, ◌==◌, ℕ, zero, suc, ◌<◌, ◌≤◌, ◌⊎◌, inl, inr, Bool, true, false, ◌&&◌, List, length, IsTrue, refl, sym, ◌∙◌, subst, arith, eqb-true, eq-eqb, le_refl}
use Rattle.std.proofs.lemmas.Bool.{and_from, and_parts, cases_Bool, cases_lt, false≢true}
use Rattle.omega_game_values.specs.declared.player.Player.{Player}
use Rattle.omega_game_values.specs.declared.player.Player.TheVariants.{Zero}
use Rattle.omega_game_values.specs.Game.{Node, priority_at}
use Rattle.omega_game_values.specs.Player.{loses}
use Rattle.omega_game_region_laws.proofs.Attractor.{Attractor, attractor}
use Rattle.omega_game_region_laws.proofs.Places.{minus, size, size_lt}
use Rattle.omega_game_values.specs.Player.{opponent_of}
use Rattle.omega_game_region_laws.proofs.Players.{opponent_twice, cases_player, is_player, is_player-same, favoured}
use Rattle.omega_game_region_laws.proofs.Search.{sought_below}
use Rattle.omega_game_region_laws.proofs.Split.{IsSubgame, Split, remaining, fewer, sole_split, won_by, joint_split}
use Rattle.omega_game_region_laws.proofs.Tours.{tour_start}

-- a place of the set below n whose priority no other has above it
record IsTop (nodes : List Node) (S : ℕ → Bool) (n v : ℕ) : Type 0 where
  here : S v ≡ true
  below : v < n
  most : (u : ℕ) → u < n → S u ≡ true → priority_at nodes u ≤ priority_at nodes v

-- such a place, or no place at all
abbrev TopOrNone : List Node → (ℕ → Bool) → ℕ → Type 0
TopOrNone nodes S n = ((v : ℕ) × IsTop nodes S n v) ⊎ ((v : ℕ) → v < n → S v ≡ false)

-- one place more that is not in the set
none_more : (S : ℕ → Bool) (n : ℕ) → ((v : ℕ) → v < n → S v ≡ false) → S n ≡ false → (v : ℕ) → v < suc n → S v ≡ false
none_more S n none off v below = go (cases_lt v n)
  where
    go : (v < n) ⊎ (n ≤ v) → S v ≡ false
    go (inl before) = none v before
    go (inr from) = let e : v ≡ n = omega arith in rw e off

-- one place more: what was the greatest stays so, or the new one is
top_more : (nodes : List Node) (S : ℕ → Bool) (n v : ℕ) → S v ≡ true → v < suc n
    → ((u : ℕ) → u < n → S u ≡ true → priority_at nodes u ≤ priority_at nodes v) → (S n ≡ true → priority_at nodes n ≤ priority_at nodes v)
    → IsTop nodes S (suc n) v
top_more nodes S n v here below most last = record { here = here; below = below; most = λ u u_below within. go u u_below within (cases_lt u n) }
  where
    go : (u : ℕ) → u < suc n → S u ≡ true → (u < n) ⊎ (n ≤ u) → priority_at nodes u ≤ priority_at nodes v
    go u u_below within (inl before) = most u before within
    go u u_below within (inr from) = let e : n ≡ u = omega arith in subst (λ x. priority_at nodes x ≤ priority_at nodes v) e (last (rw e within))

-- each set has such a place or none at all
top_of : (nodes : List Node) (S : ℕ → Bool) (n : ℕ) → TopOrNone nodes S n
top_of nodes S zero = inr (λ v below. absurd (omega arith))
top_of nodes S (suc n) = go (top_of nodes S n) (cases_Bool (S n))
  where
    higher : (v : ℕ) → IsTop nodes S n v → S n ≡ true → (priority_at nodes v < priority_at nodes n) ⊎ (priority_at nodes n ≤ priority_at nodes v) → TopOrNone nodes S (suc n)
    higher v top here (inl above) =
        inl (n, top_more nodes S n n here (le_refl (suc n)) (λ u below within. omega (arith, top.most u below within)) (λ _. le_refl _))
    higher v top here (inr under) = inl (v, top_more nodes S n v top.here (omega (arith, top.below)) top.most (λ _. under))

    go : TopOrNone nodes S n → (S n ≡ true) ⊎ (S n ≡ false) → TopOrNone nodes S (suc n)
    go (inl found) (inl here) = higher found.0 found.1 here (cases_lt (priority_at nodes found.0) (priority_at nodes n))
    go (inl found) (inr off) =
        inl (found.0, top_more nodes S n found.0 found.1.here (omega (arith, found.1.below)) found.1.most (λ here. absurd (false≢true (sym off ∙ here))))
    go (inr none) (inl here) =
        inl (n, top_more nodes S n n here (le_refl (suc n)) (λ u below within. absurd (false≢true (sym (none u below) ∙ within))) (λ _. le_refl _))
    go (inr none) (inr off) = inr (none_more S n none off)

-- no place, nothing to win
empty_split : (nodes : List Node) (S : ℕ → Bool) → IsSubgame nodes S → ((v : ℕ) → v < length nodes → S v ≡ false) → Split nodes S
empty_split nodes S sub none = record {
  winner = λ v. Zero;
  choice = λ v. v;
  chosen = λ v here. absurd (nowhere v here);
  kept = λ v w here. absurd (nowhere v here);
  won = λ v ws tour. absurd (nowhere v (tour_start S _ v ws tour));
}
  where
    nowhere : (v : ℕ) → S v ≡ true → ⊥
    nowhere v here = false≢true (sym (none v (sub.inside v here)) ∙ here)

-- splits of all smaller subgames
abbrev Smaller : List Node → ℕ → Type 0
Smaller nodes fuel = (S : ℕ → Bool) → IsSubgame nodes S → size S (length nodes) ≤ fuel → Split nodes S

-- the places of one priority
abbrev of_priority : List Node → (ℕ → Bool) → ℕ → ℕ → Bool
of_priority nodes S q v = S v && (priority_at nodes v == q)

-- the step below a greatest priority, for the player whom it favours and the other
module _ (nodes : List Node) (fuel : ℕ) (again : Smaller nodes fuel) (S : ℕ → Bool) (sub : IsSubgame nodes S) (few : size S (length nodes) ≤ suc fuel)
    (v : ℕ) (top : IsTop nodes S (length nodes) v) (player : Player) (favours : IsTrue (loses (opponent_of player) (priority_at nodes v)) → ⊥) where
  -- the places of the greatest priority
  abbrev top_nodes : ℕ → Bool
  top_nodes = of_priority nodes S (priority_at nodes v)

  -- they are in the set and have it
  top_nodes_parts : (u : ℕ) → top_nodes u ≡ true → (S u ≡ true) × (priority_at nodes u ≡ priority_at nodes v)
  top_nodes_parts u aim =
      let parts = and_parts (S u) (priority_at nodes u == priority_at nodes v) aim in
      (parts.0, eqb-true (priority_at nodes u) (priority_at nodes v) parts.1)

  -- the given place is one
  top_in_top_nodes : top_nodes v ≡ true
  top_in_top_nodes = and_from (S v) (priority_at nodes v == priority_at nodes v) top.here (eq-eqb _ _ refl)

  -- the attractor for them of the player whom it favours
  drawn : Attractor nodes S top_nodes (opponent_of player)
  drawn = attractor nodes S top_nodes (opponent_of player) sub.inside (λ u aim. (top_nodes_parts u aim).0)

  -- the split of what that leaves
  rest : Split nodes (minus S drawn.set)
  rest = again (minus S drawn.set) (remaining nodes S top_nodes (opponent_of player) drawn sub) (omega (arith, fewer nodes S top_nodes (opponent_of player) drawn sub v top_in_top_nodes))

  -- either the other player wins some of that, or none
  step_by : ((u : ℕ) × (u < length nodes) × (won_by player rest u ≡ true)) ⊎ ((u : ℕ) → u < length nodes → won_by player rest u ≡ false) → Split nodes S
  step_by (inl found) =
      let back = attractor nodes S (won_by player rest) player sub.inside (λ u here. (and_parts (S u) _ (and_parts (minus S drawn.set u) _ here).0).0) in
      joint_split nodes S top_nodes player drawn rest back
      (again (minus S back.set) (remaining nodes S (won_by player rest) player back sub)
      (omega (arith, fewer nodes S (won_by player rest) player back sub found.0 found.2)))
  step_by (inr none) =
      sole_split nodes S top_nodes sub (opponent_of player) (priority_at nodes v)
      (λ u aim. omega (arith, (top_nodes_parts u aim).1))
      (λ u here. top.most u (sub.inside u here) here)
      favours drawn rest (λ u left. alone u left (cases_player (rest.winner u) player))
    where
      alone : (u : ℕ) → minus S drawn.set u ≡ true → (rest.winner u ≡ player) ⊎ (rest.winner u ≡ opponent_of player) → rest.winner u ≡ opponent_of player
      alone u left (inr other_wins) = other_wins
      alone u left (inl wins) =
          let won : won_by player rest u ≡ true =
          and_from (minus S drawn.set u) (is_player (rest.winner u) player) left (rw wins (is_player-same player)) in
          absurd (false≢true (sym (none u (sub.inside u (and_parts (S u) _ left).0)) ∙ won))

  -- the split of the whole
  step : Split nodes S
  step = step_by (sought_below (λ u. won_by player rest u ≡ true) (λ u. won_by player rest u ≡ false) (λ u. cases_Bool (won_by player rest u)) (length nodes))

-- with a greatest priority or without
split_by : (nodes : List Node) (fuel : ℕ) → Smaller nodes fuel → (S : ℕ → Bool) → IsSubgame nodes S → size S (length nodes) ≤ suc fuel → TopOrNone nodes S (length nodes) → Split nodes S
split_by nodes fuel again S sub few (inr none) = empty_split nodes S sub none
split_by nodes fuel again S sub few (inl found) =
    let favoured_one = favoured (priority_at nodes found.0) in
    step nodes fuel again S sub few found.0 found.1 (opponent_of favoured_one.0)
    (subst (λ p. IsTrue (loses p (priority_at nodes found.0)) → ⊥) (sym (opponent_twice favoured_one.0)) favoured_one.1)

-- a set without places has no greatest one
split_none : (nodes : List Node) (S : ℕ → Bool) → IsSubgame nodes S → size S (length nodes) ≤ 0 → TopOrNone nodes S (length nodes) → Split nodes S
split_none nodes S sub few (inr none) = empty_split nodes S sub none
split_none nodes S sub few (inl found) =
    absurd (omega (arith, size_lt (λ _. false) S (length nodes) found.0 (λ u gone. absurd (false≢true gone)) found.1.below refl found.1.here))

-- every subgame has a split
pub split_of : (nodes : List Node) (fuel : ℕ) (S : ℕ → Bool) → IsSubgame nodes S → size S (length nodes) ≤ fuel → Split nodes S
split_of nodes zero S sub few = split_none nodes S sub few (top_of nodes S (length nodes))
split_of nodes (suc fuel) S sub few = split_by nodes fuel (split_of nodes fuel) S sub few (top_of nodes S (length nodes))
