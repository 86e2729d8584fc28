-- What two solvers found of a game, one for each player, is a right solution.
use Rattle.std.proofs.Common.{◌≡◌, ◌↔◌, ℕ, ◌<◌, inl, inr, Bool, true, false, List, Option, Some, None, IsSome, is_some, length, get_or, refl, sym, ap, ◌∙◌, arith}
use Rattle.std.specs.List.{slice_get}
use Rattle.std.proofs.lemmas.List.{get_or-map, length-map}
use Rattle.std.proofs.lemmas.Option.{get_or_from_slice_get, slice_get-get_or}
use Rattle.omega_game_values.specs.declared.player.Player.{Player}
use Rattle.omega_game_values.specs.declared.player.Player.TheVariants.{One, Zero}
use Rattle.omega_game_values.specs.Game.{IsGame, Node, owner_at, priorities}
use Rattle.omega_game_values.specs.Winning.{Chooses, InRegion, choice_at}
use Rattle.omega_measure.specs.Table.{is_too_wide}
use Rattle.omega_game_values.specs.declared.solution.Solution.{Solution}
use Rattle.omega_game_values.specs.Solution.{GivesRegions, choices_of, winner_at}
use Rattle.omega_game_region_laws.specs.Laws.{RegionsAreApart, RegionsCover}
use Rattle.omega_solve.specs.Headline.{IsExact}
use Rattle.omega_solve.specs.budget.Within.{EndsWithin, IsFound}
use Rattle.omega_solve.specs.declared.budget.found.Found.{Found}
use Rattle.omega_answers_game.specs.solve.Solution.{IsRight}
use Rattle.omega_answers_game.specs.solve.Winners.{winner_of, winners_of}
use Rattle.omega_answers_game.proofs.Places.{slice_get-true}

-- ---- the winners

winner_of-Zero : (b : Bool) → (winner_of b ≡ Zero) ↔ (b ≡ true)
winner_of-Zero true = (λ _. refl, λ _. refl)
winner_of-Zero false = (λ e. cc, λ e. cc)

winner_of-One : (b : Bool) → (winner_of b ≡ One) ↔ (b ≡ false)
winner_of-One true = (λ e. cc, λ e. cc)
winner_of-One false = (λ _. refl, λ _. refl)

-- the winner at a place, by its flag
winner-flag : (won : List Bool) (v : ℕ) → v < length won → get_or (winners_of won) v Zero ≡ winner_of (get_or won v false)
winner-flag won v h = get_or-map winner_of won v false Zero h

-- the flag at a place of player 0's region, and no other, is true
flag-region : (nodes : List Node) (won : List Bool) (choices : List (Option ℕ)) (v : ℕ) → IsExact nodes Zero won choices
    → v < length nodes → (get_or won v false ≡ true) ↔ InRegion nodes Zero v
flag-region nodes won choices v exact h =
    let within : v < length won = omega (arith, exact.entries) in (
      λ t. (exact.exactly v).0 (slice_get-true won v within t),
      λ region. get_or_from_slice_get won v true false ((exact.exactly v).1 region),
    )

-- a flag that is false is that of a node of player 1's region
false-One : (nodes : List Node) (v : ℕ) (flag : Bool) → IsGame nodes → v < length nodes → RegionsAreApart → RegionsCover
    → (flag ≡ true) ↔ InRegion nodes Zero v → (flag ≡ false) ↔ InRegion nodes One v
false-One nodes v true game h apart cover region =
    (λ e. cc, λ one. absurd (apart nodes v game (region.0 refl) one))
false-One nodes v false game h apart cover region = (
  λ _.
      elim (cover nodes v game h) [
        | inl zero ↦ let t : false ≡ true = region.1 zero in cc
        | inr one ↦ one
      ],
  λ _. refl,
)

-- the winners are those in whose regions the nodes are
winners-regions : (nodes : List Node) (won : List Bool) (choices : List (Option ℕ)) → IsGame nodes
    → IsExact nodes Zero won choices → RegionsAreApart → RegionsCover
    → (player : Player) (v : ℕ) → v < length nodes → (get_or (winners_of won) v Zero ≡ player) ↔ InRegion nodes player v
winners-regions nodes won choices game exact apart cover Zero v h =
    let e = winner-flag won v (omega (arith, exact.entries)) in
    let region = flag-region nodes won choices v exact h in
    let flag = winner_of-Zero (get_or won v false) in
    (λ w. region.0 (flag.0 (sym e ∙ w)), λ r. e ∙ flag.1 (region.1 r))
winners-regions nodes won choices game exact apart cover One v h =
    let e = winner-flag won v (omega (arith, exact.entries)) in
    let region = false-One nodes v (get_or won v false) game h apart cover (flag-region nodes won choices v exact h) in
    let flag = winner_of-One (get_or won v false) in
    (λ w. region.0 (flag.0 (sym e ∙ w)), λ r. e ∙ flag.1 (region.1 r))

-- ---- the choices

-- a choice that there is, is of some node
chooses-some : (choices : List (Option ℕ)) (v : ℕ) (choice : Option ℕ) → slice_get choices v ≡ Some choice → is_some choice ≡ true
    → (w : ℕ) × Chooses choices v w
chooses-some choices v None e some = cc
chooses-some choices v (Some w) e some = (w, e)

-- there is a choice exactly if the owner wins
chosen-exactly : (nodes : List Node) (player winner : Player) (won : List Bool) (choices : List (Option ℕ)) (v : ℕ)
    → IsExact nodes player won choices → v < length nodes → (winner ≡ player) ↔ InRegion nodes player v
    → IsSome (choice_at choices v) ↔ ((owner_at nodes v ≡ player) × (winner ≡ player))
chosen-exactly nodes player winner won choices v exact h region =
    let within : v < length choices = omega (arith, exact.strategy.entries) in (
      λ some.
          let chosen = chooses-some choices v (choice_at choices v) (slice_get-get_or choices v None within) some in (
            exact.strategy.owned v chosen.0 chosen.1,
            region.1 ((exact.exactly v).0 (exact.only v chosen.0 chosen.1)),
          ),
      λ (owned, won_there).
          let chosen = exact.chosen v ((exact.exactly v).1 (region.0 won_there)) owned in
          ap is_some (get_or_from_slice_get choices v (Some chosen.0) None chosen.1),
    )

-- ---- the solution

-- what was found for a player, if the solution has its choices
abbrev IsFoundFor : List Node → ℕ → Solution → Player → Type 0
IsFoundFor nodes budget solution player =
    (won : List Bool) × (lifts : ℕ) × IsExact nodes player won (choices_of solution player) × EndsWithin nodes player budget lifts

-- a solution of what was found, with the winners of the regions, is right
right_of : (nodes : List Node) (budget : ℕ) (solution : Solution) → length solution.winners ≡ length nodes
    → ((player : Player) → is_too_wide player (priorities nodes) ≡ false) → GivesRegions nodes solution
    → ((player : Player) → IsFoundFor nodes budget solution player) → IsRight nodes budget solution
right_of nodes budget solution entries narrow regions found = record {
  exact = record {
    fits = record {
      winners = entries;
      strategies = λ player. (found player).2.strategy;
      chosen = λ player v h.
          chosen-exactly nodes player (winner_at solution v) (found player).0 (choices_of solution player) v (found player).2 h
          (regions player v h);
    };
    regions = regions;
    wins = λ player v h winner. (found player).2.wins v ((regions player v h).0 winner);
  };
  narrow = narrow;
  ended = λ player. ((found player).1, (found player).3);
}

-- a game that is too wide for neither
pub by_player : (nodes : List Node) → is_too_wide Zero (priorities nodes) ≡ false → is_too_wide One (priorities nodes) ≡ false
    → (player : Player) → is_too_wide player (priorities nodes) ≡ false
by_player nodes zero one Zero = zero
by_player nodes zero one One = one

-- what was found for either
found_by_player : (nodes : List Node) (budget : ℕ) (solution : Solution) (zero one : Found) → IsFound nodes Zero budget zero
    → IsFound nodes One budget one → solution.zero.choice ≡ zero.choice.items → solution.one.choice ≡ one.choice.items
    → (player : Player) → IsFoundFor nodes budget solution player
found_by_player nodes budget solution zero one for_zero for_one ez eo Zero =
    (zero.won.items, zero.lifts, rw ez for_zero.exact, for_zero.ended)
found_by_player nodes budget solution zero one for_zero for_one ez eo One =
    (one.won.items, one.lifts, rw eo for_one.exact, for_one.ended)

-- what two new solvers of a game found, one for each player, is a right solution
pub right_solution : (nodes : List Node) (budget : ℕ) (zero one : Found) (solution : Solution) → IsGame nodes
    → is_too_wide Zero (priorities nodes) ≡ false → is_too_wide One (priorities nodes) ≡ false
    → IsFound nodes Zero budget zero → IsFound nodes One budget one
    → solution.winners ≡ winners_of zero.won.items → solution.zero.choice ≡ zero.choice.items → solution.one.choice ≡ one.choice.items
    → RegionsAreApart → RegionsCover → IsRight nodes budget solution
right_solution nodes budget zero one solution game narrow_zero narrow_one for_zero for_one ew ez eo apart cover =
    let exact = for_zero.exact in
    right_of nodes budget solution (rw ew (length-map zero.won.items winner_of ∙ exact.entries)) (by_player nodes narrow_zero narrow_one)
    (λ player v h. rw ew (winners-regions nodes zero.won.items zero.choice.items game exact apart cover player v h))
    (found_by_player nodes budget solution zero one for_zero for_one ez eo)
