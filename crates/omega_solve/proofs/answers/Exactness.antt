-- If no lift is due, the answer of a table that is reached is exact.
use Rattle.std.proofs.Common.{◌≡◌, ℕ, ◌<◌, true, false, List, Option, Some, None, length, refl, sym, ap, ◌∙◌, arith}
use Rattle.std.specs.List.{slice_get}
use Rattle.std.specs.Option.{IsSome, is_some}
use Rattle.std.proofs.lemmas.List.{get_or-map, length-map}
use Rattle.std.proofs.lemmas.Option.{get_or_from_slice_get, slice_get-get_or, slice_get_within}
use Rattle.omega_game_values.specs.declared.player.Player.{Player}
use Rattle.omega_game_values.specs.Game.{Node, IsGame, priorities}
use Rattle.omega_game_values.specs.Winning.{Chooses, InRegion}
use Rattle.omega_lift_laws.specs.Measure.{Measure}
use Rattle.omega_lift_laws.specs.Allowance.{measure_at}
use Rattle.omega_lift_laws.specs.Answer.{AreChoices, won_in}
use Rattle.omega_lift_laws.specs.Laws.{ChoicesAreAStrategy, ChoicesWin, RegionsStayBelowTop}
use Rattle.omega_lift_laws.specs.Run.{IsLiftingRun, IsStable, IsTable, zero_table}
use Rattle.omega_solve.specs.Headline.{IsExact}

-- a table of a game has a measure for each node
pub entries_are : (nodes : List Node) (player : Player) (table : List Measure) → IsTable player (priorities nodes) table → length table ≡ length nodes
entries_are nodes player table is = is.entries ∙ length-map nodes (λ (node : Node). node.priority)

-- the flag of a place says won exactly if its measure is below top
pub reported_at : (table : List Measure) (v : ℕ) → v < length table → slice_get (won_in table) v ≡ Some (is_some (measure_at table v))
reported_at table v lt =
    let inside : v < length (won_in table) = omega (arith, length-map table (λ (x : Measure). is_some x)) in
    slice_get-get_or (won_in table) v false inside ∙ ap Some (get_or-map (λ (x : Measure). is_some x) table v None false lt)

-- a place that is won is one of the table
won_inside : (table : List Measure) (v : ℕ) → slice_get (won_in table) v ≡ Some true → v < length table
won_inside table v at = omega (arith, slice_get_within (won_in table) v true at, length-map table (λ (x : Measure). is_some x))

-- and below top
won_below_top : (table : List Measure) (v : ℕ) → slice_get (won_in table) v ≡ Some true → IsSome (measure_at table v)
won_below_top table v at =
    sym (get_or-map (λ (x : Measure). is_some x) table v None false (won_inside table v at)) ∙ get_or_from_slice_get (won_in table) v true false at

-- a place with a choice is won
chosen_won : (nodes : List Node) (player : Player) (table : List Measure) (choices : List (Option ℕ)) (v w : ℕ) (x : Measure)
    → AreChoices nodes player table choices → v < length nodes → v < length table → Chooses choices v w → measure_at table v ≡ x
    → slice_get (won_in table) v ≡ Some true
chosen_won nodes player table choices v w None are node entry chooses at =
    let none : slice_get choices v ≡ Some None = are.lost v node at in cc
chosen_won nodes player table choices v w (Some entries) are node entry chooses at =
    reported_at table v entry ∙ ap (λ (x : Measure). Some (is_some x)) at

-- if no lift is due, the answer of a table that is reached is exact
pub answer_exact : (nodes : List Node) (player : Player) (places : List ℕ) (table : List Measure) (choices : List (Option ℕ))
    → ChoicesAreAStrategy → ChoicesWin → RegionsStayBelowTop
    → IsGame nodes → IsTable player (priorities nodes) table → IsLiftingRun nodes player (zero_table player (priorities nodes)) places table
    → IsStable nodes player table → AreChoices nodes player table choices → IsExact nodes player (won_in table) choices
answer_exact nodes player places table choices is_strategy win stay game is lifted stable chosen =
    let strategy = is_strategy nodes player table choices chosen in
    let entries = entries_are nodes player table is in
    let reported : (v : ℕ) → InRegion nodes player v → slice_get (won_in table) v ≡ Some true =
    λ v region. let inside : v < length table = omega (arith, region.node) in
    reported_at table v inside ∙ ap Some (stay nodes player places table v game lifted region) in
    let wins = λ (v : ℕ) (at : slice_get (won_in table) v ≡ Some true).
    win nodes player table choices v game is stable chosen (won_below_top table v at) in
    record {
      entries = length-map table (λ (x : Measure). is_some x) ∙ entries;
      strategy = strategy;
      chosen = λ v at own.
          let node : v < length nodes = omega (arith, won_inside table v at) in
          let found = chosen.chosen v node own (won_below_top table v at) in
          (found.0, found.1);
      only = λ v w chooses.
          let node : v < length nodes = omega (arith, strategy.entries, slice_get_within choices v (Some w) chooses) in
          chosen_won nodes player table choices v w (measure_at table v) chosen node (omega arith) chooses refl;
      exactly = λ v. (
        λ at. record { node = omega (arith, won_inside table v at); choices = choices; strategy = strategy; wins = wins v at },
        reported v,
      );
      wins = λ v region. wins v (reported v region);
    }
