-- Walks of usable edges in the graph of an automaton are those of the automaton.
use Rattle.std.proofs.Common.{◌≡◌, ℕ, ◌+◌, ◌<◌, false, ltb, List, [], ◌∷◌, length, get_or, map, Contains, Some, refl, sym, ap, subst, ◌∙◌, arith}
use Rattle.std.specs.Prelude.{slice_get}
use Rattle.std.specs.List.{AllByRecursion, list_any}
use Rattle.std.proofs.lemmas.Bool.{ltb-false, or_parts}
use Rattle.std.proofs.lemmas.List.{get_or-map, length-map}
use Rattle.std.proofs.lemmas.List.Elements.{All-contains, All-from_recursion}
use Rattle.std.proofs.lemmas.Option.{get_or_from_slice_get, slice_get-get_or, slice_get_within}
use Rattle.omega_hoa_automaton.specs.Automaton.{AreTargets, BodyEdge, Description, IsAutomaton, edge_at, edges_of}
use Rattle.omega_hoa_automaton.specs.Branching.{has_universal_branching, state_branches}
use Rattle.omega_hoa_automaton.specs.declared.state.State.{State}
use Rattle.omega_graph.specs.Graph.{AreStates, edge_of, ends_at, listed, marked}
use Rattle.omega_graph.specs.declared.edge.Edge.{Edge}
use Rattle.omega_graph.specs.Walks.{IsEdgeWalk, MarkedGraph}
use Rattle.omega_graph_accepting_walk.proofs.Listing.{listed_from, listed_has}
use Rattle.omega_lang_runs.specs.Lasso.{IsStart, IsStep, Leads}
use Rattle.omega_lang_runs.proofs.Flat.{IsListed, listed_flat}
use Rattle.omega_lang_runs.proofs.SingleTargets.{enters_one, none_passes}
use Rattle.omega_lang_lasso_search.specs.Tabled.{AreUsableEdges, first_of}
use Rattle.omega_hoa_edges.specs.AutomatonLabels.{defined_numbers}
use Rattle.omega_lang_trim.specs.private.Placed.{place_of, placed_in, shape_of, sources_of}
use Rattle.omega_lang_trim.proofs.Among.{IsImage, contains_from_map, contains_map, place_bound, place_one}

-- a start lists one state
alone : (start : List ℕ) → 0 < length start → ltb 1 (length start) ≡ false → start ≡ first_of start ∷ []
alone [] some few = absurd (omega arith)
alone (state ∷ []) some few = refl
alone (state ∷ other ∷ states) some few = let less = ltb-false 1 (length (state ∷ other ∷ states)) few in absurd (omega arith)

start_alone : (a : Description) → IsAutomaton a → has_universal_branching a ≡ false → (start : List ℕ) → Contains a.starts start → start ≡ first_of start ∷ []
start_alone a automaton plain start has =
    let starts = (or_parts (list_any (λ (start : List ℕ). ltb 1 (length start)) a.starts) (list_any state_branches a.defined) plain).0 in
    let targets : AreTargets a start = All-contains (AreTargets a) a.starts start automaton.starts has in
    alone start targets.listed (none_passes (λ (start : List ℕ). ltb 1 (length start)) a.starts has.0 start starts has.1 (sym has.2))

-- the sources are the places of the starts
pub source_of : (a : Description) (state : ℕ) → IsStart a state → Contains (sources_of a) (place_of a state)
source_of a state begins = contains_map (λ (start : List ℕ). place_of a (first_of start)) a.starts (state ∷ []) begins

-- and states of the graph
pub sources_inside : (a : Description) → AreStates (shape_of a) (sources_of a)
sources_inside a = All-from_recursion (λ source. source < length a.defined + 1) (sources_of a) (go a.starts)
  where
    long : length (defined_numbers a) ≡ length a.defined
    long = length-map a.defined (λ (state : State). state.number)

    go : (starts : List (List ℕ)) → AllByRecursion (λ source. source < length a.defined + 1) (map (λ (start : List ℕ). place_of a (first_of start)) starts)
    go [] = tt
    go (start ∷ starts) = let bound = place_bound (defined_numbers a) (first_of start) in (omega (arith, bound, long), go starts)

pub record StartAt (a : Description) (place : ℕ) : Type 0 where
  pub state : ℕ
  pub begins : IsStart a state
  pub at : place_of a state ≡ place

pub start_of : (a : Description) → IsAutomaton a → has_universal_branching a ≡ false → (place : ℕ) → Contains (sources_of a) place → StartAt a place
start_of a automaton plain place has =
    let from : IsImage (λ (start : List ℕ). place_of a (first_of start)) a.starts place =
    contains_from_map (λ (start : List ℕ). place_of a (first_of start)) a.starts place has in
    record {
      state = first_of from.x;
      begins = subst (Contains a.starts) (start_alone a automaton plain from.x from.has) from.has;
      at = from.is;
    }

module _ (a : Description) where
  -- the state that an edge leaves is defined
  pub source_defined : (number : ℕ) (edge : BodyEdge) → edge_at a number ≡ Some edge → Contains (defined_numbers a) edge.source.number
  source_defined number edge stands =
      let in_body : Contains (edges_of a) edge =
      (number, slice_get_within (edges_of a) number edge stands, get_or_from_slice_get (edges_of a) number edge edge stands) in
      let from : IsListed a.defined edge = listed_flat a.defined edge in_body in
      contains_map (λ (state : State). state.number) a.defined edge.source (from.place, from.below, sym from.here)

  -- where the edge of a number leads
  pub ends_are : (number : ℕ) (edge : BodyEdge) → edge_at a number ≡ Some edge → ends_at (shape_of a) number ≡ placed_in (defined_numbers a) edge
  ends_are number edge stands =
      get_or-map (placed_in (defined_numbers a)) (edges_of a) number edge (edge_of 0 0) (slice_get_within (edges_of a) number edge stands)
      ∙ ap (placed_in (defined_numbers a)) (get_or_from_slice_get (edges_of a) number edge edge stands)

  -- edges lead from a defined state, if there are some
  pub begin_defined : (from : ℕ) (walk : List ℕ) (to : ℕ) → 0 < length walk → Leads a from walk to → Contains (defined_numbers a) from
  begin_defined from [] to longer leads = absurd (omega arith)
  begin_defined from (number ∷ walk) to longer leads =
      let step : IsStep a from number leads.0 = leads.1 in
      subst (Contains (defined_numbers a)) step.leaves (source_defined number step.edge step.numbered)

module _ (a : Description) (automaton : IsAutomaton a) (plain : has_universal_branching a ≡ false) (numbers : List ℕ) (usable : AreUsableEdges a numbers)
    (marks : ℕ → List ℕ) where
  abbrev pub traced : MarkedGraph
  traced = marked (shape_of a) marks

  -- a step is a usable edge
  record Stepped (from number to : ℕ) : Type 0 where
    pub has : Contains numbers number
    pub leaves : (ends_at (shape_of a) number).from ≡ place_of a from
    pub enters : (ends_at (shape_of a) number).to ≡ place_of a to

  step_to : (from number to : ℕ) → IsStep a from number to → Stepped from number to
  step_to from number to step =
      let ends = ends_are a number step.edge step.numbered in
      record {
        has = (usable.exact number step.edge step.numbered).1 step.usable;
        leaves = ap (λ (e : Edge). e.from) ends ∙ ap (place_of a) step.leaves;
        enters = ap (λ (e : Edge). e.to) ends ∙ ap (λ (states : List ℕ). place_of a (first_of states)) step.enters;
      }

  -- and a usable edge a step
  record StepOf (number : ℕ) : Type 0 where
    pub from : ℕ
    pub to : ℕ
    pub defined : Contains (defined_numbers a) from
    pub step : IsStep a from number to
    pub leaves : (ends_at (shape_of a) number).from ≡ place_of a from
    pub enters : (ends_at (shape_of a) number).to ≡ place_of a to

  step_from : (number : ℕ) → Contains numbers number → StepOf number
  step_from number has =
      let low = All-contains (λ n. n < length (edges_of a)) numbers number usable.below has in
      let edge = some_at (edges_of a) number low in
      let one = enters_one a automaton plain number edge.0 edge.1 in
      let ends = ends_are a number edge.0 edge.1 in
      record {
        from = edge.0.source.number;
        to = one.target;
        defined = source_defined a number edge.0 edge.1;
        step = record {
          edge = edge.0;
          numbered = edge.1;
          usable = (usable.exact number edge.0 edge.1).0 has;
          leaves = refl;
          enters = one.enters;
        };
        leaves = ap (λ (e : Edge). e.from) ends;
        enters = ap (λ (e : Edge). e.to) ends ∙ ap (λ (states : List ℕ). place_of a (first_of states)) one.enters;
      }
    where
      some_at : {X : Type 0} (xs : List X) (k : ℕ) → k < length xs → (x : X) × (slice_get xs k ≡ Some x)
      some_at [] k below = absurd (omega arith)
      some_at {X = X} (x ∷ xs) k below = (get_or (x ∷ xs) k x, slice_get-get_or (x ∷ xs) k x below)

  -- what leads is a walk of the graph
  pub walk_to : (from : ℕ) (walk : List ℕ) (to : ℕ) → Leads a from walk to → IsEdgeWalk traced (listed numbers) (place_of a from) walk (place_of a to)
  walk_to from [] to leads = ap (place_of a) leads
  walk_to from (number ∷ walk) to leads =
      let stepped = step_to from number leads.0 leads.1 in (
        listed_from numbers number stepped.has,
        stepped.leaves,
        subst (λ place. IsEdgeWalk traced (listed numbers) place walk (place_of a to)) (sym stepped.enters) (walk_to leads.0 walk to leads.2),
      )

  -- and a walk of the graph leads
  pub record LeadsOn (from : ℕ) (walk : List ℕ) (place : ℕ) : Type 0 where
    pub to : ℕ
    pub leads : Leads a from walk to
    pub at : place_of a to ≡ place

  pub walk_from : (from : ℕ) (walk : List ℕ) (place : ℕ) → IsEdgeWalk traced (listed numbers) (place_of a from) walk place → LeadsOn from walk place
  walk_from from [] place leads = record { to = from; leads = refl; at = leads }
  walk_from from (number ∷ walk) place leads =
      let step = step_from number (listed_has numbers number leads.0) in
      let same : from ≡ step.from = place_one (defined_numbers a) step.from from step.defined (sym leads.1 ∙ step.leaves) in
      let rest = walk_from step.to walk place (subst (λ at. IsEdgeWalk traced (listed numbers) at walk place) step.enters leads.2) in
      record {
        to = rest.to;
        leads = (step.to, subst (λ state. IsStep a state number step.to) (sym same) step.step, rest.leads);
        at = rest.at;
      }
