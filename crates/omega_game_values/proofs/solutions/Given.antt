-- Lists of the places given to a player: one more place looked at in each step, and winning from all of them.
use Rattle.std.proofs.Common.{◌≡◌, ◌↔◌, ◌⊎◌, inl, inr, ℕ, ◌+◌, ◌<◌, ◌≤◌, ◌++◌, ◌∷◌, [], List, All, Contains, length, get_or, slice_index_or, below_more, subst, arith}
use Rattle.std.specs.List.Sorted.{IsStrictlyIncreasing}
use Rattle.std.proofs.lemmas.Bool.{cases_lt}
use Rattle.std.proofs.lemmas.List.{get_or_append_left, get_or_push, length_push}
use Rattle.std.proofs.lemmas.List.Elements.{Contains-append_left, Contains-get_or, Contains-push, Contains-push_cases}
use Rattle.omega_game_values.specs.declared.player.Player.{Player}
use Rattle.omega_game_values.specs.declared.player.Player.TheVariants.{Zero}
use Rattle.omega_game_values.specs.declared.solution.Solution.{Solution}
use Rattle.omega_game_values.specs.Game.{Node}
use Rattle.omega_game_values.specs.Solution.{ArePlacesGiven, WinsGiven, choices_of}
use Rattle.omega_game_values.specs.Winning.{Wins}
use Rattle.omega_game_values.proofs.elements.Membership.{Contains-nothing}

-- the places are those before an end that are given to the player, rising
pub record AreGivenBefore (winners : List Player) (player : Player) (end : ℕ) (places : List ℕ) : Type 0 where
  pub rising : IsStrictlyIncreasing places
  pub given : (v : ℕ) → Contains places v ↔ ((v < end) × (slice_index_or winners v Zero ≡ player))

-- before the first place none is
pub given-none : (winners : List Player) (player : Player) → AreGivenBefore winners player 0 []
given-none winners player = record {
  rising = λ j h. absurd (omega arith);
  given = λ v. (λ there. absurd (Contains-nothing v there), λ given. absurd (omega (arith, given.0)));
}

-- a place that is not given to the player is not listed
pub given-passed : (winners : List Player) (player : Player) (k : ℕ) (places : List ℕ) → AreGivenBefore winners player k places
    → (slice_index_or winners k Zero ≡ player → ⊥) → AreGivenBefore winners player (k + 1) places
given-passed winners player k places before other = record {
  rising = before.rising;
  given = λ v. (
    λ there. let given = (before.given v).0 there in (omega (arith, given.0), given.1),
    λ given.
        below_more (λ u. slice_index_or winners u Zero ≡ player → Contains places u) k
        (λ u below winner. (before.given u).1 (below, winner)) (λ winner. absurd (other winner)) v given.0 given.1,
  );
}

-- one more place at the end of places that rise below it
rises-pushed : (places : List ℕ) (k : ℕ) → IsStrictlyIncreasing places → ((v : ℕ) → Contains places v → v < k)
    → IsStrictlyIncreasing (places ++ k ∷ [])
rises-pushed places k rising below j within = go (cases_lt (j + 1) (length places))
  where
    here : j < length places
    here = omega (arith, length_push places k, within)

    before : get_or (places ++ k ∷ []) j 0 ≡ get_or places j 0
    before = get_or_append_left places (k ∷ []) 0 j here

    go : (j + 1 < length places) ⊎ (length places ≤ j + 1) → get_or (places ++ k ∷ []) j 0 < get_or (places ++ k ∷ []) (j + 1) 0
    go (inl inside) = rw (before, get_or_append_left places (k ∷ []) 0 (j + 1) inside) (rising j inside)
    go (inr end) =
        rw (before, get_or_push places k 0 (j + 1) (omega (arith, length_push places k, within)))
        (below (get_or places j 0) (Contains-get_or places j 0 here))

-- one that is given is listed
pub given-listed : (winners : List Player) (player : Player) (k : ℕ) (places : List ℕ) → AreGivenBefore winners player k places
    → slice_index_or winners k Zero ≡ player → AreGivenBefore winners player (k + 1) (places ++ k ∷ [])
given-listed winners player k places before here = record {
  rising = rises-pushed places k before.rising (λ v there. ((before.given v).0 there).0);
  given = λ v. (
    λ there.
        elim (Contains-push_cases places k v there) [
          | inl earlier ↦ let given = (before.given v).0 earlier in (omega (arith, given.0), given.1)
          | inr same ↦ (omega (arith, same), rw (← same) here)
        ],
    λ given.
        below_more (λ u. slice_index_or winners u Zero ≡ player → Contains (places ++ k ∷ []) u) k
        (λ u below winner. Contains-append_left places (k ∷ []) u ((before.given u).1 (below, winner)))
        (λ winner. Contains-push places k) v given.0 given.1,
  );
}

-- the places given to a player are nodes
pub given-within : (solution : Solution) (player : Player) (places : List ℕ) (count : ℕ) → ArePlacesGiven solution player places
    → length solution.winners ≡ count → All (λ v. v < count) places
given-within solution player places count are entries k d h =
    let given = (are.given _).0 (Contains-get_or places k d h) in omega (arith, given.0, entries)

-- the choices win from each of them exactly if they win from all nodes given to the player
pub given-wins : (nodes : List Node) (solution : Solution) (player : Player) (places : List ℕ) → ArePlacesGiven solution player places
    → length solution.winners ≡ length nodes → All (Wins nodes player (choices_of solution player)) places ↔ WinsGiven nodes solution player
given-wins nodes solution player places are entries = (
  λ all v h winner.
      let there = (are.given v).1 (omega (arith, entries, h), winner) in
      subst (Wins nodes player (choices_of solution player)) there.2 (all there.0 v there.1),
  λ wins k d h.
      let given = (are.given (get_or places k d)).0 (Contains-get_or places k d h) in
      wins (get_or places k d) (omega (arith, entries, given.0)) given.1,
)
