-- A start's node that player 0 wins has an accepting lasso: the strategy is followed, two steps at a time,
-- until a place comes again.
use Rattle.std.proofs.Common.{◌≡◌, ℕ, zero, suc, ◌+◌, ◌-◌, ◌%◌, ◌<◌, ◌⊎◌, inl, inr, List, length, map, IsTrue, sym, ap, refl, ◌∙◌, subst, arith, eq-eqb}
use Rattle.std.proofs.lemmas.Bool.{cases_eq}
use Rattle.omega_hoa_acceptance.specs.KindLaws.{BuchiIsEverySet, ParityIsPriority}
use Rattle.omega_hoa_automaton.specs.Automaton.{Description, IsAutomaton}
use Rattle.omega_game_values.specs.Game.{Node, identifier_at}
use Rattle.omega_game_values.specs.Player.{loses}
use Rattle.omega_game_values.specs.Winning.{InRegion, IsClosedWalk, IsWalk, Leaves, end_of, greatest_on}
use Rattle.omega_game_values.specs.declared.player.Player.TheVariants.{Zero}
use Rattle.omega_game_region_laws.proofs.Following.{choice_at, end-trail, longer_trail, reached, reached-add, reached_below, some_left, trail, walk_of_trail}
use Rattle.omega_game_region_laws.proofs.Pigeonhole.{Repeats, repeats}
use Rattle.omega_game_region_laws.specs.Laws.{RegionsCover}
use Rattle.omega_empty.specs.EmptinessGame.{IsEmptinessGame}
use Rattle.omega_empty.specs.GameLaws.{UnwonIsEmpty, WonStartsAccept, numbers_on, within_counter}
use Rattle.omega_lang_runs.specs.Lasso.{AcceptsFrom, IsStart, marks_at}
use Rattle.omega_empty.proofs.Counters.{counter_after_marks}
use Rattle.omega_empty.proofs.playing.Winning.{lassos_are_won}
use Rattle.omega_empty.proofs.meaning.Accepting.{at_start, first_counter, first_id, not_sunk, single, start_below, won_walks_accept}
use Rattle.omega_empty.proofs.meaning.Reading.{Reading, half, reading, sunk, whole}
use Rattle.omega_empty.proofs.meaning.Steps.{state_place, state_within}

-- a number of nodes after the first
length_trail : (next : ℕ → ℕ) (k v : ℕ) → length (trail next v k) ≡ k
length_trail next zero v = refl
length_trail next (suc k) v = ap suc (length_trail next k (next v))

-- a priority that does not lose for player 0 is even
pub even_from : (q : ℕ) → (IsTrue (loses Zero q) → ⊥) → q % 2 ≡ 0
even_from q kept = go (cases_eq (q % 2) 1)
  where
    go : (q % 2 ≡ 1) ⊎ (q % 2 ≡ 1 → ⊥) → q % 2 ≡ 0
    go (inl odd) = absurd (kept (eq-eqb (q % 2) 1 odd))
    go (inr even) = omega arith

-- some accepting lasso begins at a start
abbrev HasLasso : Description → ℕ → Type 0
HasLasso a start = (stem : List ℕ) × ((cycle : List ℕ) × AcceptsFrom a start stem cycle)

module _ (a : Description) (game : List Node) (automaton : IsAutomaton a) (is : IsEmptinessGame a game)
    (parity : ParityIsPriority) (buchi : BuchiIsEverySet)
    (start v : ℕ) (begins : IsStart a start) (named : identifier_at game v ≡ start) (region : InRegion game Zero v) where
  -- the choice at a node, or its first successor
  abbrev next : ℕ → ℕ
  next = choice_at game region.choices

  left : (u : ℕ) → u < length game → Leaves game Zero region.choices u (next u)
  left u below = some_left game Zero region.choices u is.game_is.game region.strategy below

  inside : (u : ℕ) → u < length game → next u < length game
  inside u below = is.game_is.game.closed u (next u) (left u below).listed

  -- after an even number of steps the node is no edge's
  ends : (there around : List ℕ) (i : ℕ) → length there ≡ i + i → IsClosedWalk game Zero region.choices (end_of v there) around
      → greatest_on game (end_of v there) around % 2 ≡ 0
      → Reading is.kind a is.usable game automaton is.usable_are is.game_is v 0 start there → within_counter a game (end_of v there) < a.states
  ends there around i long closed even (whole read) =
      omega (
        arith,
        read.at_end.state_below,
        state_within is.kind a is.usable game automaton is.usable_are is.game_is (end_of v there)
            (counter_after_marks is.kind 0 (map (marks_at a) read.numbers)) read.to read.at_end,
      )
  ends there around i long closed even (half c number edge at n odd) = absurd (omega (arith, long, odd))
  ends there around i long closed even (sunk sink) = absurd (not_sunk a game automaton is region.choices (end_of v there) around closed even sink)

  found : (i d : ℕ) → 0 < d → reached next v (i + i) ≡ reached next v ((i + i) + (d + d)) → HasLasso a start
  found i d further same =
      let there : List ℕ = trail next v (i + i) in
      let e : ℕ = end_of v there in
      let around : List ℕ = trail next e (d + d) in
      let arrives : e ≡ reached next v (i + i) = end-trail next (i + i) v in
      let inside_there : e < length game = subst (λ u. u < length game) (sym arrives) (reached_below next (length game) inside (i + i) v region.node) in
      let back : end_of e around ≡ e =
      end-trail next (d + d) e ∙ ap (λ u. reached next u (d + d)) arrives ∙ reached-add next (i + i) (d + d) v ∙ sym same ∙ sym arrives in
      let walk : IsWalk game Zero region.choices v there = walk_of_trail game Zero region.choices next left inside (i + i) v region.node in
      let closed : IsClosedWalk game Zero region.choices e around = record {
        walk = walk_of_trail game Zero region.choices next left inside (d + d) e inside_there;
        longer = longer_trail next e (d + d) (omega arith);
        closed = back;
      } in
      let even : greatest_on game e around % 2 ≡ 0 = even_from (greatest_on game e around) (region.wins there around walk closed) in
      let read = reading is.kind a is.usable game automaton is.usable_are is.game_is (single a game automaton is) Zero region.choices v 0 start there
      (at_start a game automaton is start v begins region.node named) walk in (
        numbers_on a game there,
        (
          numbers_on a game around,
          won_walks_accept parity buchi a game region.choices start v there around automaton is begins region.node named walk
              (ends there around i (length_trail next (i + i) v) closed even read) closed even,
        ),
      )

  at_repeat : Repeats (λ k. reached next v (k + k)) (length game) → HasLasso a start
  at_repeat repeat =
      let i : ℕ = repeat.first in
      let d : ℕ = repeat.second - repeat.first in
      let further : 0 < d = omega (arith, repeat.later) in
      let sum : repeat.second + repeat.second ≡ (i + i) + (d + d) = omega (arith, repeat.later) in
      found i d further (repeat.same ∙ ap (reached next v) sum)

  pub won_start_accepts : HasLasso a start
  won_start_accepts = at_repeat (repeats (length game) (λ k. reached next v (k + k)) (λ k least. reached_below next (length game) inside (k + k) v region.node))

pub unwon_is_empty : ParityIsPriority → BuchiIsEverySet → RegionsCover → UnwonIsEmpty
unwon_is_empty parity buchi cover a game automaton is = (
  λ unwon stem cycle accepting.
      (let start : ℕ = accepting.lasso.start in
      let stands = state_place is.kind a is.usable game automaton is.usable_are is.game_is 0 start
      (first_counter a game automaton is) (start_below a automaton start accepting.lasso.begins) in
      let named : identifier_at game stands.0 ≡ start = stands.1.named ∙ first_id a game automaton is start in
      unwon start stands.0 accepting.lasso.begins stands.1.place named
      (lassos_are_won parity buchi cover a game stem cycle stands.0 automaton is accepting stands.1.place named)),
  λ none start v begins below named region.
      (let lasso = won_start_accepts a game automaton is parity buchi start v begins named region in none lasso.0 lasso.1.0 lasso.1.1.0),
)

pub won_starts_accept : ParityIsPriority → BuchiIsEverySet → RegionsCover → WonStartsAccept
won_starts_accept parity buchi cover a game start v automaton is begins below named = (
  λ region. won_start_accepts a game automaton is parity buchi start v begins named region,
  λ lasso. lassos_are_won parity buchi cover a game lasso.0 lasso.1.0 v automaton is lasso.1.1.0 below (named ∙ sym lasso.1.1.1),
)
