-- Where the automaton has an accepting lasso, player 0 wins: player 1 cannot,
-- since laps of the cycle close a walk that loses for player 1.
use Rattle.std.proofs.Common.{◌≡◌, ℕ, ◌+◌, ◌-◌, ◌%◌, ◌<◌, inl, inr, true, List, [], ◌∷◌, ◌++◌, length, map, All, Option, sym, ap, ◌∙◌, subst, arith, append_assoc, zero-add}
use Rattle.std.specs.Prelude.{slice_index_or}
use Rattle.std.proofs.Math.Nat.{zero-mul}
use Rattle.std.proofs.lemmas.Bool.{eq-eqb}
use Rattle.std.proofs.lemmas.List.{length-map, map-append}
use Rattle.std.proofs.lemmas.List.Elements.{All-map}
use Rattle.omega_hoa_parity_kind.specs.Priority.{greatest_number}
use Rattle.omega_hoa_acceptance.specs.Acceptance.{accepts}
use Rattle.omega_hoa_acceptance.specs.KindLaws.{BuchiIsEverySet, ParityIsPriority}
use Rattle.omega_hoa_acceptance.specs.declared.kind.AccKind.{AccKind}
use Rattle.omega_hoa_acceptance.specs.declared.kind.AccKind.TheVariants as kinds
use Rattle.omega_hoa_automaton.specs.Automaton.{AreBelow, Description, IsAutomaton}
use Rattle.omega_game_values.specs.Game.{Node}
use Rattle.omega_game_values.specs.Winning.{InRegion, Wins, end_of, greatest_on}
use Rattle.omega_game_values.specs.declared.player.Player.TheVariants.{Zero, One}
use Rattle.omega_game_region_laws.proofs.Pigeonhole.{Repeats, repeats}
use Rattle.omega_game_region_laws.specs.Laws.{RegionsCover}
use Rattle.omega_empty.specs.Counters.{counters}
use Rattle.omega_hoa_automaton.specs.AcceptanceKind.{HasKind}
use Rattle.omega_empty.specs.EmptinessGame.{IsEmptinessGame, span, state_id}
use Rattle.omega_lang_runs.specs.Lasso.{IsAcceptingLasso, IsStart, Leads, marks_at}
use Rattle.omega_empty.specs.Laws.{AcceptingLassosAreWon}
use Rattle.omega_empty.proofs.Counters.{AreWithin, closed_accepts, counter_after_marks, counter_after_marks_below, formula_of, priorities_from}
use Rattle.omega_lang_runs.proofs.Leads.{laps, laps_lead, leads_on}
use Rattle.omega_empty.proofs.playing.Lapping.{counter_on, laps_accept, laps_longer, laps_on}
use Rattle.omega_empty.proofs.playing.Places.{Stands, same_place, walks}
use Rattle.omega_lang_runs.proofs.Kept.{marks_low}

-- the formula of the automaton is that of its kind, and its marks are within
formula_is : (a : Description) (kind : AccKind) → HasKind a kind → a.acceptance ≡ formula_of kind
formula_is a (kinds.Parity kind) has = has.row.formula_is
formula_is a (kinds.GenBuchi sets) has = has.row.formula_is

within : (a : Description) (kind : AccKind) → IsAutomaton a → HasKind a kind → (numbers : List ℕ) → AreWithin kind (map (marks_at a) numbers)
within a (kinds.Parity kind) automaton has numbers =
    All-map (λ (marks : List ℕ). All (λ mark. mark < kind.count) marks) (marks_at a) numbers
    (λ k d below. (let P : ℕ → Type 0 = λ count. All (λ mark. mark < count) (marks_at a (slice_index_or numbers k d)) in subst P has.row.counted (marks_low a automaton (slice_index_or numbers k d))))
within a (kinds.GenBuchi sets) automaton has numbers = tt

module _ (parity : ParityIsPriority) (buchi : BuchiIsEverySet) (a : Description) (nodes : List Node) (automaton : IsAutomaton a) (game : IsEmptinessGame a nodes)
    (stem cycle : List ℕ) (lasso : IsAcceptingLasso a stem cycle) (v : ℕ)
    (stands : Stands game.kind a game.usable nodes automaton game.usable_are game.game_is v 0 lasso.lasso.start) where
  abbrev path : ℕ → List ℕ
  path n = stem ++ laps cycle n

  abbrev counter_at : ℕ → ℕ
  counter_at n = counter_after_marks game.kind 0 (map (marks_at a) (path n))

  path_leads : (n : ℕ) → Leads a lasso.lasso.start (path n) lasso.lasso.loop_state
  path_leads n =
      leads_on a lasso.lasso.start stem lasso.lasso.loop_state (laps cycle n) lasso.lasso.loop_state lasso.lasso.stem_leads
      (laps_lead a lasso.lasso.loop_state cycle n lasso.lasso.cycle_leads)

  -- player 1 wins with no choices from there
  lost : (choices : List (Option ℕ)) → Repeats counter_at (counters game.kind) → Wins nodes One choices v → ⊥
  lost choices same wins =
      let m : ℕ = same.second - same.first in
      let sum : same.first + m ≡ same.second = omega (arith, same.later) in
      let some : 0 < m = omega (arith, same.later) in
      let round : List ℕ = laps cycle m in
      let c : ℕ = counter_at same.first in
      let there = walks game.kind a game.usable nodes automaton game.usable_are game.game_is choices v 0 lasso.lasso.start (path same.first) lasso.lasso.loop_state stands (path_leads same.first) in
      let around = walks game.kind a game.usable nodes automaton game.usable_are game.game_is choices (end_of v there.places) c lasso.lasso.loop_state round lasso.lasso.loop_state there.stands
      (laps_lead a lasso.lasso.loop_state cycle m lasso.lasso.cycle_leads) in
      let joined : path same.first ++ round ≡ path same.second =
      append_assoc stem (laps cycle same.first) round ∙ ap (λ list. stem ++ list) (laps_on cycle same.first m same.second sum) in
      let back : counter_after_marks game.kind c (map (marks_at a) round) ≡ c =
      sym (counter_on game.kind 0 (map (marks_at a) (path same.first)) (map (marks_at a) round))
      ∙ ap (counter_after_marks game.kind 0) (sym (map-append (marks_at a) (path same.first) round) ∙ ap (map (marks_at a)) joined) ∙ sym same.same in
      let closed : end_of (end_of v there.places) around.places ≡ end_of v there.places =
      same_place nodes (end_of (end_of v there.places) around.places) (end_of v there.places) game.game_is.game.rising around.stands.place there.stands.place
      (around.stands.named ∙ ap (λ counter. state_id a counter lasso.lasso.loop_state) back ∙ sym there.stands.named) in
      let longer : 0 < length round = laps_longer cycle m lasso.lasso.longer some in
      let accepted : accepts (map (marks_at a) round) (formula_of game.kind) ≡ true =
      ap (accepts (map (marks_at a) round)) (sym (formula_is a game.kind game.kind_is)) ∙ laps_accept (marks_at a) cycle m a.acceptance some ∙ lasso.accepted in
      let even : greatest_number (priorities_from game.kind c (map (marks_at a) round)) % 2 ≡ 0 =
      (closed_accepts parity buchi game.kind c (map (marks_at a) round) (omega (arith, length-map round (marks_at a), longer)) (within a game.kind automaton game.kind_is round)
      there.stands.counter_below back).0 accepted in
      wins there.places around.places there.walk (record { walk = around.walk; longer = around.longer longer; closed = closed })
      (eq-eqb (greatest_on nodes (end_of v there.places) around.places % 2) 0 (ap (λ n. n % 2) around.greatest_is ∙ even))

  pub won : RegionsCover → InRegion nodes Zero v
  won cover = elim (cover nodes v game.game_is.game stands.place) [
    | inl zero_wins ↦ zero_wins
    | inr one_wins ↦ absurd (lost one_wins.choices
        (repeats (counters game.kind) counter_at (λ n least. counter_after_marks_below game.kind 0 (map (marks_at a) (path n)) stands.counter_below)) one_wins.wins)
  ]

-- a start is a state of the automaton
start_below : (a : Description) → IsAutomaton a → (state : ℕ) → IsStart a state → state < a.states
start_below a automaton state start =
    let P : List ℕ → Type 0 = λ states. AreBelow a.states states in
    (subst P start.2 (automaton.starts start.0 (state ∷ []) start.1).below) 0 0 (omega arith)

some_counters : (a : Description) (kind : AccKind) → HasKind a kind → 0 < counters kind
some_counters a (kinds.Parity kind) has = omega arith
some_counters a (kinds.GenBuchi sets) has = omega (arith, has.row.some_sets)

pub lassos_are_won : ParityIsPriority → BuchiIsEverySet → RegionsCover → AcceptingLassosAreWon
lassos_are_won parity buchi cover a nodes stem cycle v automaton game lasso below named =
    won parity buchi a nodes automaton game stem cycle lasso v
    (record {
      place = below;
      named = named ∙ sym (ap (λ n. n + lasso.lasso.start) (zero-mul (span a)) ∙ zero-add lasso.lasso.start);
      counter_below = some_counters a game.kind game.kind_is;
      state_below = start_below a automaton lasso.lasso.start lasso.lasso.begins;
    })
    cover
