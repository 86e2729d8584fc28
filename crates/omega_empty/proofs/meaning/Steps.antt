-- Edges of an emptiness game: from a state's node to the sink or a usable edge's, and on to the state that it enters,
-- and no others.
use Rattle.std.proofs.Common.{◌≡◌, ℕ, ◌+◌, ◌-◌, ◌*◌, ◌%◌, ◌<◌, ◌⊎◌, inl, inr, Bool, true, false, cond, List, [], ◌∷◌, length, map, Contains, Some, slice_get, nat_lt, sym, ap, ◌∙◌, subst, arith, add_assoc, lt_irrefl, mul_comm}
use Rattle.std.proofs.lemmas.Bool.{lt-ltb, le-ltb}
use Rattle.std.proofs.lemmas.Nat.{mod-mul-add, mul-add-lt}
use Rattle.std.proofs.lemmas.Option.{slice_get-get_or, slice_get_within}
use Rattle.omega_hoa_acceptance.specs.declared.kind.AccKind.{AccKind}
use Rattle.omega_hoa_automaton.specs.Automaton.{BodyEdge, Description, IsAutomaton, edge_at, edge_count, edges_of}
use Rattle.omega_game_values.proofs.elements.Membership.{Contains-cases, Contains-nothing, map-Contains}
use Rattle.omega_game_values.specs.Building.{IsGameOf}
use Rattle.omega_game_values.specs.Game.{HasEdge, Node, identifier_at}
use Rattle.omega_game_values.specs.declared.node_spec.NodeSpec.{NodeSpec}
use Rattle.omega_empty.specs.Counters.{counter_after, counters}
use Rattle.omega_lang_runs.specs.Judging.{AreUsable}
use Rattle.omega_empty.specs.EmptinessGame.{edge_id, edge_node, is_usable, leaving, sink_id, sink_node, span, state_id, state_node, table}
use Rattle.omega_empty.specs.GameLaws.{number_at, within_counter}
use Rattle.omega_lang_runs.specs.Lasso.{IsStep, marks_of}
use Rattle.omega_empty.proofs.Counters.{counter_after_below}
use Rattle.omega_empty.proofs.playing.Places.{Stands}
use Rattle.omega_empty.proofs.playing.Table.{same_digits}
use Rattle.omega_empty.proofs.meaning.Identified.{IsAt, known, listed, place}
use Rattle.omega_lang_runs.proofs.SingleTargets.{EntersOne}
use Rattle.omega_empty.proofs.meaning.Tables.{IsLeaving, leaving_is, or_sink_is, table_has_edge, table_has_sink, table_has_state}

-- the remainder of an identifier
remainder : (id counter width first k : ℕ) → id ≡ counter * width + first + k → first + k < width → id % width ≡ first + k
remainder id counter width first k is below = ap (λ n. n % width) (is ∙ add_assoc (counter * width) first k) ∙ mod-mul-add counter width (first + k) below

-- the mark of usability
usable_from_is : (usable : List Bool) (number : ℕ) → number < length usable → is_usable usable number ≡ true → slice_get usable number ≡ Some true
usable_from_is usable number below one = slice_get-get_or usable number false below ∙ ap (λ (b : Bool). Some b) one

module _ (kind : AccKind) (a : Description) (usable : List Bool) (game : List Node)
    (automaton : IsAutomaton a) (judged : AreUsable a usable) (made : IsGameOf (table kind a usable) game) where
  -- the node of a state at a counter has a place
  abbrev pub AtState : ℕ → ℕ → ℕ → Type 0
  AtState v counter state = Stands kind a usable game automaton judged made v counter state

  -- the node of a usable edge at a counter has one
  pub record AtEdge (v counter number : ℕ) (edge : BodyEdge) : Type 0 where
    pub place_below : v < length game
    pub named : identifier_at game v ≡ edge_id a counter number
    pub counter_below : counter < counters kind
    pub numbered : edge_at a number ≡ Some edge
    pub one : is_usable usable number ≡ true

  -- the sink has one
  pub record AtSink (v : ℕ) : Type 0 where
    pub place_below : v < length game
    pub named : identifier_at game v ≡ sink_id kind a

  -- an edge that leaves a state has a place
  pub record Leaving (w counter state : ℕ) : Type 0 where
    pub number : ℕ
    pub edge : BodyEdge
    pub at_edge : AtEdge w counter number edge
    pub leaves : edge.source.number ≡ state

  -- the state that an edge enters has one, at the counter that its marks bring
  pub record Entering (u counter : ℕ) (edge : BodyEdge) : Type 0 where
    pub state : ℕ
    pub at_state : AtState u (counter_after kind counter (marks_of edge)) state
    pub enters : edge.edge.targets ≡ state ∷ []

  -- within the counter, a state's node has its state, and an edge's the number after all states
  pub state_within : (v counter state : ℕ) → AtState v counter state → within_counter a game v ≡ state
  state_within v counter state at =
      let below : state < span a = omega (arith, at.state_below) in
      ap (λ n. n % span a) at.named ∙ mod-mul-add counter (span a) state below

  pub edge_within : (v counter number : ℕ) (edge : BodyEdge) → AtEdge v counter number edge → within_counter a game v ≡ a.states + number
  edge_within v counter number edge at =
      let below : number < edge_count a = slice_get_within (edges_of a) number edge at.numbered in
      remainder (identifier_at game v) counter (span a) a.states number at.named (omega (arith, below))

  -- so a state's node gives no number, and an edge's its own
  pub state_number : (v counter state : ℕ) → AtState v counter state → number_at a game v ≡ []
  state_number v counter state at =
      ap (λ (m : ℕ). cond (nat_lt m a.states) [] ((m - a.states) ∷ [])) (state_within v counter state at)
      ∙ ap (λ (b : Bool). cond b [] ((state - a.states) ∷ [])) (lt-ltb state a.states at.state_below)

  pub edge_number : (v counter number : ℕ) (edge : BodyEdge) → AtEdge v counter number edge → number_at a game v ≡ number ∷ []
  edge_number v counter number edge at =
      let difference : a.states + number - a.states ≡ number = omega arith in
      ap (λ (m : ℕ). cond (nat_lt m a.states) [] ((m - a.states) ∷ [])) (edge_within v counter number edge at)
      ∙ ap (λ (b : Bool). cond b [] ((a.states + number - a.states) ∷ [])) (le-ltb (a.states + number) a.states (omega arith))
      ∙ ap (λ (n : ℕ). n ∷ []) difference

  -- a place is the node of one state at one counter
  pub one_state : (v counter state other_counter other : ℕ) → AtState v counter state → AtState v other_counter other
      → (counter ≡ other_counter) × (state ≡ other)
  one_state v counter state other_counter other at at' =
      same_digits (span a) counter state other_counter other (omega (arith, at.state_below)) (omega (arith, at'.state_below)) (sym at.named ∙ at'.named)

  -- no state's node is an edge's
  pub state_no_edge : (v counter state other number : ℕ) (edge : BodyEdge) → AtState v counter state → AtEdge v other number edge → ⊥
  state_no_edge v counter state other number edge at at' =
      omega (arith, at.state_below, state_within v counter state at, edge_within v other number edge at')

  -- no state's node is the sink
  pub state_no_sink : (v counter state : ℕ) → AtState v counter state → AtSink v → ⊥
  state_no_sink v counter state at sink =
      let below : state < span a = omega (arith, at.state_below) in
      let less : counter * span a + state < span a * counters kind = mul-add-lt counter (span a) state (counters kind) at.counter_below below in
      let turned : span a * counters kind ≡ counters kind * span a = mul_comm (span a) (counters kind) in
      let same : counter * span a + state ≡ counters kind * span a = sym at.named ∙ sink.named in
      lt_irrefl (counters kind * span a) (subst (λ n. n < counters kind * span a) same (subst (λ n. counter * span a + state < n) turned less))

  -- the node at a place
  pub state_stands : (v counter state : ℕ) → AtState v counter state → IsAt game (state_node kind a usable counter state) v
  state_stands v counter state at =
      known (table kind a usable) game made (state_node kind a usable counter state) v
      (table_has_state kind a usable counter state at.counter_below at.state_below) at.place at.named

  pub edge_stands : (v counter number : ℕ) (edge : BodyEdge) → AtEdge v counter number edge → IsAt game (edge_node kind a counter number edge) v
  edge_stands v counter number edge at =
      known (table kind a usable) game made (edge_node kind a counter number edge) v
      (table_has_edge kind a usable counter number edge at.counter_below at.numbered at.one) at.place_below at.named

  pub sink_stands : (v : ℕ) → AtSink v → IsAt game (sink_node kind a) v
  sink_stands v at = known (table kind a usable) game made (sink_node kind a) v (table_has_sink kind a usable) at.place_below at.named

  -- each state has a place at each counter
  pub state_place : (counter state : ℕ) → counter < counters kind → state < a.states → (v : ℕ) × AtState v counter state
  state_place counter state counter_below state_below =
      let found = place (table kind a usable) game made (state_node kind a usable counter state) (table_has_state kind a usable counter state counter_below state_below) in (
        found.0,
        record {
          place = found.1.node;
          named = ap (λ (s : NodeSpec). s.id) found.1.is;
          counter_below = counter_below;
          state_below = state_below;
        },
      )

  -- a state's node leads to the sink, or to an edge that leaves the state
  pub leaves_state : (v w counter state : ℕ) → AtState v counter state → HasEdge game v w → AtSink w ⊎ Leaving w counter state
  leaves_state v w counter state at edge =
      let numbers = leaving usable state 0 (edges_of a) in
      go (made.game.closed v w edge)
      (or_sink_is (sink_id kind a) (map (edge_id a counter) numbers) (identifier_at game w)
      (listed (table kind a usable) game made (state_node kind a usable counter state) v w (state_stands v counter state at) edge))
    where
      found : w < length game → (number : ℕ) → identifier_at game w ≡ edge_id a counter number → IsLeaving usable state 0 (edges_of a) number → Leaving w counter state
      found below number same one =
          let e : one.index ≡ number = omega (arith, one.counted) in
          record {
            number = number;
            edge = one.edge;
            at_edge = record {
              place_below = below;
              named = same;
              counter_below = at.counter_below;
              numbered = subst (λ n. edge_at a n ≡ Some one.edge) e one.stands;
              one = one.is_usable_one;
            };
            leaves = one.leaves;
          }

      go : w < length game → (identifier_at game w ≡ sink_id kind a) ⊎ Contains (map (edge_id a counter) (leaving usable state 0 (edges_of a))) (identifier_at game w)
          → AtSink w ⊎ Leaving w counter state
      go below (inl sink) = inl (record { place_below = below; named = sink })
      go below (inr among) =
          let one = map-Contains (edge_id a counter) (leaving usable state 0 (edges_of a)) (identifier_at game w) among in
          inr (found below one.0 one.2 (leaving_is usable state (edges_of a) 0 one.0 one.1))

  -- an edge's node leads to the one state that it enters
  pub leaves_edge : (w u counter number : ℕ) (edge : BodyEdge) → AtEdge w counter number edge → EntersOne a.states edge → HasEdge game w u → Entering u counter edge
  leaves_edge w u counter number edge at single leads =
      let after : ℕ = counter_after kind counter (marks_of edge) in
      let found = map-Contains (state_id a after) edge.edge.targets (identifier_at game u)
      (listed (table kind a usable) game made (edge_node kind a counter number edge) w u (edge_stands w counter number edge at) leads) in
      let same : single.target ≡ found.0 = go single.target found.0 (subst (λ (list : List ℕ). Contains list found.0) single.enters found.1) in
      record {
        state = single.target;
        at_state = record {
          place = made.game.closed w u leads;
          named = found.2 ∙ ap (state_id a after) (sym same);
          counter_below = counter_after_below kind counter (marks_of edge) at.counter_below;
          state_below = single.below;
        };
        enters = single.enters;
      }
    where
      go : (x y : ℕ) → Contains (x ∷ []) y → x ≡ y
      go x y within = elim (Contains-cases x y [] within) [
        | inl here ↦ here
        | inr later ↦ absurd (Contains-nothing y later)
      ]

  -- the sink leads to itself alone
  pub leaves_sink : (v w : ℕ) → AtSink v → HasEdge game v w → AtSink w
  leaves_sink v w at leads =
      record {
        place_below = made.game.closed v w leads;
        named = go (Contains-cases (sink_id kind a) (identifier_at game w) []
            (listed (table kind a usable) game made (sink_node kind a) v w (sink_stands v at) leads));
      }
    where
      go : (sink_id kind a ≡ identifier_at game w) ⊎ Contains [] (identifier_at game w) → identifier_at game w ≡ sink_id kind a
      go (inl here) = sym here
      go (inr later) = absurd (Contains-nothing (identifier_at game w) later)

  -- an edge's node is one step of the automaton
  pub step_of : (w counter state number : ℕ) (edge : BodyEdge) → AtEdge w counter number edge → edge.source.number ≡ state
      → (next : ℕ) → edge.edge.targets ≡ next ∷ [] → IsStep a state number next
  step_of w counter state number edge at leaves next enters =
      let below : number < edge_count a = slice_get_within (edges_of a) number edge at.numbered in
      record {
        edge = edge;
        numbered = at.numbered;
        usable = (judged.judged number edge at.numbered).0 (usable_from_is usable number (omega (arith, below, judged.entries)) at.one);
        leaves = leaves;
        enters = enters;
      }
