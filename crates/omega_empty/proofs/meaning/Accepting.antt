-- What player 0 wins accepts: a walk from a start's node and a closed walk whose greatest priority is
-- even are an accepting lasso.
use Rattle.std.proofs.Common.{◌≡◌, ℕ, ◌+◌, ◌%◌, ◌<◌, List, [], ◌∷◌, length, map, All, Option, Some, IsTrue, refl, sym, ap, ◌∙◌, subst, arith, zero-add, zero-mul}
use Rattle.std.specs.Prelude.{slice_index_or}
use Rattle.std.proofs.lemmas.List.{length-map}
use Rattle.std.proofs.lemmas.List.Elements.{All-contains, All-head, All-map}
use Rattle.omega_hoa_parity_kind.specs.Priority.{greatest_number}
use Rattle.omega_hoa_acceptance.specs.Acceptance.{accepts}
use Rattle.omega_hoa_acceptance.specs.KindLaws.{BuchiIsEverySet, ParityIsPriority}
use Rattle.omega_hoa_acceptance.specs.declared.kind.AccKind.{AccKind}
use Rattle.omega_hoa_acceptance.specs.declared.kind.AccKind.TheVariants as kinds
use Rattle.omega_hoa_automaton.specs.Automaton.{AreTargets, BodyEdge, Description, IsAutomaton, edge_at}
use Rattle.omega_game_values.specs.Game.{Node, identifier_at}
use Rattle.omega_game_values.specs.Winning.{IsClosedWalk, end_of, greatest_on}
use Rattle.omega_game_values.specs.declared.player.Player.TheVariants.{Zero}
use Rattle.omega_empty.specs.Counters.{counters}
use Rattle.omega_hoa_automaton.specs.AcceptanceKind.{HasKind}
use Rattle.omega_empty.specs.EmptinessGame.{IsEmptinessGame, span, state_id}
use Rattle.omega_empty.specs.GameLaws.{WonWalksAccept, numbers_on}
use Rattle.omega_lang_runs.specs.Lasso.{AcceptsFrom, IsAcceptingLasso, IsStart, Leads, marks_at}
use Rattle.omega_empty.proofs.Counters.{AreWithin, closed_accepts, counter_after_marks, formula_of, priorities_from}
use Rattle.omega_lang_runs.proofs.Kept.{marks_low}
use Rattle.omega_empty.proofs.meaning.Reading.{Reading, half, reading, sink_greatest, sunk, whole}
use Rattle.omega_lang_runs.proofs.SingleTargets.{EntersOne, enters_one}
use Rattle.omega_empty.proofs.meaning.Steps.{AtEdge, AtSink, AtState, edge_within, one_state, state_no_edge, state_no_sink}

-- what a kind says: its formula, that it has a counter, and that marks are within its count
formula_is : (a : Description) (kind : AccKind) → HasKind a kind → a.acceptance ≡ formula_of kind
formula_is a (kinds.Parity kind) has = has.row.formula_is
formula_is a (kinds.GenBuchi sets) has = has.row.formula_is

some_counters : (a : Description) (kind : AccKind) → HasKind a kind → 0 < counters kind
some_counters a (kinds.Parity kind) has = omega arith
some_counters a (kinds.GenBuchi sets) has = omega (arith, has.row.some_sets)

within : (a : Description) (kind : AccKind) → IsAutomaton a → HasKind a kind → (numbers : List ℕ) → AreWithin kind (map (marks_at a) numbers)
within a (kinds.Parity kind) automaton has numbers =
    All-map (λ (marks : List ℕ). All (λ mark. mark < kind.count) marks) (marks_at a) numbers
    (λ k d below. (let P : ℕ → Type 0 = λ count. All (λ mark. mark < count) (marks_at a (slice_index_or numbers k d)) in subst P has.row.counted (marks_low a automaton (slice_index_or numbers k d))))
within a (kinds.GenBuchi sets) automaton has numbers = tt

-- a start is a state
pub start_below : (a : Description) → IsAutomaton a → (start : ℕ) → IsStart a start → start < a.states
start_below a automaton start begins =
    let targets = All-contains (AreTargets a) a.starts (start ∷ []) automaton.starts begins in
    All-head (λ number. number < a.states) start [] targets.below

-- 1 is odd
one_odd : 1 % 2 ≡ 0 → ⊥
one_odd odd = cc

module _ (a : Description) (game : List Node) (automaton : IsAutomaton a) (is : IsEmptinessGame a game) where
  -- each edge enters one state
  pub single : (number : ℕ) (edge : BodyEdge) → edge_at a number ≡ Some edge → EntersOne a.states edge
  single = enters_one a automaton is.plain

  pub first_counter : 0 < counters is.kind
  first_counter = some_counters a is.kind is.kind_is

  -- at the first counter identifiers are states
  pub first_id : (state : ℕ) → state_id a 0 state ≡ state
  first_id state = ap (λ n. n + state) (zero-mul (span a)) ∙ zero-add state

  -- a start's node
  pub at_start : (start v : ℕ) → IsStart a start → v < length game → identifier_at game v ≡ start
      → AtState is.kind a is.usable game automaton is.usable_are is.game_is v 0 start
  at_start start v begins below named = record {
    place = below;
    named = named ∙ sym (first_id start);
    counter_below = first_counter;
    state_below = start_below a automaton start begins;
  }

  module _ (choices : List (Option ℕ)) (v : ℕ) (around : List ℕ)
      (closed : IsClosedWalk game Zero choices v around) (even : greatest_on game v around % 2 ≡ 0) where
    -- the sink is on no closed walk whose greatest priority is even
    pub not_sunk : AtSink is.kind a is.usable game automaton is.usable_are is.game_is v → ⊥
    not_sunk sink =
        let one : greatest_on game v around ≡ 1 =
        sink_greatest is.kind a is.usable game automaton is.usable_are is.game_is single Zero choices v around sink closed.walk in
        one_odd (ap (λ n. n % 2) (sym one) ∙ even)

    -- such a closed walk from a state's node is a cycle that is accepted
    module _ (parity : ParityIsPriority) (buchi : BuchiIsEverySet) (counter state : ℕ)
        (at : AtState is.kind a is.usable game automaton is.usable_are is.game_is v counter state) where
      accepted : (numbers : List ℕ) → 0 < length numbers → counter_after_marks is.kind counter (map (marks_at a) numbers) ≡ counter
          → greatest_number (priorities_from is.kind counter (map (marks_at a) numbers)) % 2 ≡ 0 → IsTrue (accepts (map (marks_at a) numbers) a.acceptance)
      accepted numbers longer back even_is =
          let some : 0 < length (map (marks_at a) numbers) = omega (arith, longer, length-map numbers (marks_at a)) in
          let law = closed_accepts parity buchi is.kind counter (map (marks_at a) numbers) some (within a is.kind automaton is.kind_is numbers) at.counter_below back in
          subst (λ f. IsTrue (accepts (map (marks_at a) numbers) f)) (sym (formula_is a is.kind is.kind_is)) (law.1 even_is)

      lasso : (start : ℕ) (stem : List ℕ) → IsStart a start → Leads a start stem state
          → Reading is.kind a is.usable game automaton is.usable_are is.game_is v counter state around
          → AcceptsFrom a start stem (numbers_on a game around)
      lasso start stem begins leads (half c number edge at' n long) =
          absurd (state_no_edge is.kind a is.usable game automaton is.usable_are is.game_is v counter state c number edge at
          (subst (λ u. AtEdge is.kind a is.usable game automaton is.usable_are is.game_is u c number edge) closed.closed at'))
      lasso start stem begins leads (sunk sink) =
          absurd (state_no_sink is.kind a is.usable game automaton is.usable_are is.game_is v counter state at
          (subst (λ u. AtSink is.kind a is.usable game automaton is.usable_are is.game_is u) closed.closed sink))
      lasso start stem begins leads (whole read) =
          let after : ℕ = counter_after_marks is.kind counter (map (marks_at a) read.numbers) in
          let back = one_state is.kind a is.usable game automaton is.usable_are is.game_is v after read.to counter state
          (subst (λ u. AtState is.kind a is.usable game automaton is.usable_are is.game_is u after read.to) closed.closed read.at_end) at in
          let longer : 0 < length read.numbers = read.longer closed.longer in
          let all : IsAcceptingLasso a stem read.numbers = record {
            lasso = record {
              start = start;
              loop_state = state;
              begins = begins;
              stem_leads = leads;
              cycle_leads = subst (λ t. Leads a state read.numbers t) back.1 read.leads;
              longer = longer;
            };
            accepted = accepted read.numbers longer back.0 (ap (λ n. n % 2) (sym read.greatest_is) ∙ even);
          } in
          subst (λ numbers. AcceptsFrom a start stem numbers) (sym read.numbers_are) (all, refl)

-- the walks are read, one after the other
pub won_walks_accept : ParityIsPriority → BuchiIsEverySet → WonWalksAccept
won_walks_accept parity buchi a game choices start v there around automaton is begins below named walk ends closed even =
    go (reading is.kind a is.usable game automaton is.usable_are is.game_is (single a game automaton is) Zero choices v 0 start there
    (at_start a game automaton is start v begins below named) walk)
  where
    go : Reading is.kind a is.usable game automaton is.usable_are is.game_is v 0 start there
        → AcceptsFrom a start (numbers_on a game there) (numbers_on a game around)
    go (whole read) =
        let counter : ℕ = counter_after_marks is.kind 0 (map (marks_at a) read.numbers) in
        let again = reading is.kind a is.usable game automaton is.usable_are is.game_is (single a game automaton is) Zero choices (end_of v there) counter read.to around
        read.at_end closed.walk in
        subst (λ stem. AcceptsFrom a start stem (numbers_on a game around)) (sym read.numbers_are)
        (lasso a game automaton is choices (end_of v there) around closed even parity buchi counter read.to read.at_end start read.numbers begins read.leads again)
    go (half c number edge at n long) =
        absurd (omega (arith, ends, edge_within is.kind a is.usable game automaton is.usable_are is.game_is (end_of v there) c number edge at))
    go (sunk sink) = absurd (not_sunk a game automaton is choices (end_of v there) around closed even sink)
