-- Lassos of the automaton, and closed walks of the graph that a source reaches.
use Rattle.std.proofs.Common.{◌≡◌, ℕ, zero, suc, ◌<◌, Bool, true, false, ltb, ◌↔◌, IsTrue, List, [], ◌∷◌, length, get_or, map, Contains, refl, sym, ap, subst, ◌∙◌, arith}
use Rattle.std.specs.List.{list_any}
use Rattle.std.proofs.lemmas.Bool.{ltb-false, or_parts}
use Rattle.std.proofs.lemmas.List.{get_or-map, get_or_default, length-map}
use Rattle.std.proofs.lemmas.List.Elements.{All-contains, Contains-get_or}
use Rattle.omega_hoa_acceptance.specs.Acceptance.{AccTree, accepts}
use Rattle.omega_hoa_automaton.specs.Automaton.{AreTargets, Description, IsAutomaton}
use Rattle.omega_hoa_automaton.specs.Branching.{has_universal_branching, state_branches}
use Rattle.omega_graph.specs.Graph.{Shape, ends_at, listed}
use Rattle.omega_graph.specs.Reaching.{IsWalkFrom}
use Rattle.omega_graph.specs.Walks.{EdgeSet, HasAccepting, IsAccepting, IsClosedEdgeWalk, IsEdgeWalk, MarkedGraph, marks_on}
use Rattle.omega_graph.proofs.ClosedWalking.{on_edges, walk_in}
use Rattle.omega_graph_accepting_walk.specs.Rows.{row_at}
use Rattle.omega_graph_accepting_walk.proofs.Listing.{filter_has, listed_from, listed_has}
use Rattle.omega_lang_runs.specs.Lasso.{IsAcceptingLasso, IsStart, marks_at}
use Rattle.omega_lang_runs.proofs.SingleTargets.{enters_one}
use Rattle.omega_lang_lasso_search.specs.Tabled.{ListsOne}
use Rattle.omega_lang_lasso_search.specs.private.Numbering.{AreNumbered, first_of, name_in}
use Rattle.omega_lang_lasso_search.specs.declared.search.LassoSearch.{LassoSearch}
use Rattle.omega_lang_lasso_search.specs.private.Searched.{IsAcceptingCycle, IsSearch, IsSearchIn, Reaches, beginning, edges_leaving, graph_of, usable_of}
use Rattle.omega_lang_lasso_search.proofs.Walks.{TracedWalk, leads_from, leads_to, same_acceptance, walk_reached}

-- a start lists one state
alone : (start : List ℕ) → 0 < length start → ltb 1 (length start) ≡ false → start ≡ first_of start ∷ []
alone [] some few = absurd (omega arith)
alone (state ∷ []) some few = refl
alone (state ∷ other ∷ states) some few = let less = ltb-false 1 (length (state ∷ other ∷ states)) few in absurd (omega arith)

-- a test that passes nowhere fails at each place
fails_at : (test : List ℕ → Bool) (xs : List (List ℕ)) (k : ℕ) → list_any test xs ≡ false → k < length xs → test (get_or xs k []) ≡ false
fails_at test [] k none below = absurd (omega arith)
fails_at test (x ∷ xs) zero none below = (or_parts (test x) (list_any test xs) none).0
fails_at test (x ∷ xs) (suc k) none below = fails_at test xs k (or_parts (test x) (list_any test xs) none).1 (omega arith)

start_alone : (a : Description) → IsAutomaton a → has_universal_branching a ≡ false → (k : ℕ) → k < length a.starts → get_or a.starts k [] ≡ first_of (get_or a.starts k []) ∷ []
start_alone a automaton plain k below =
    let starts = (or_parts (list_any (λ (start : List ℕ). ltb 1 (length start)) a.starts) (list_any state_branches a.defined) plain).0 in
    let targets : AreTargets a (get_or a.starts k []) = automaton.starts k [] below in
    alone (get_or a.starts k []) targets.listed (fails_at (λ (start : List ℕ). ltb 1 (length start)) a.starts k starts below)

-- so do all starts and edges
pub lists_one : (a : Description) → IsAutomaton a → has_universal_branching a ≡ false → ListsOne a
lists_one a automaton plain = record {
  starts = λ start within.
      let here : get_or a.starts within.0 [] ≡ start = get_or_default a.starts within.0 [] start within.1 ∙ within.2 in
      subst (λ (states : List ℕ). states ≡ first_of states ∷ []) here (start_alone a automaton plain within.0 within.1);
  edges = λ number edge stands.
      let one = enters_one a automaton plain number edge stands in
      one.enters ∙ ap (λ (target : ℕ). target ∷ []) (sym (ap first_of one.enters));
}

module _ (a : Description) (single : ListsOne a) (names sources : List ℕ) (graph : Shape)
    (numbered : AreNumbered a names sources graph) where
  same_count : length sources ≡ length a.starts
  same_count = sym (length-map sources (name_in names)) ∙ ap length numbered.starts_are ∙ length-map a.starts first_of

  named_start : (k : ℕ) → k < length sources → name_in names (get_or sources k 0) ≡ first_of (get_or a.starts k [])
  named_start k below =
      sym (get_or-map (name_in names) sources k 0 (name_in names 0) below)
      ∙ ap (λ (list : List ℕ). get_or list k (name_in names 0)) numbered.starts_are
      ∙ get_or_default (map first_of a.starts) k (name_in names 0) 0 (let same = same_count in omega (arith, length-map a.starts first_of))
      ∙ get_or-map first_of a.starts k [] 0 (let same = same_count in omega arith)

  -- a source represents a start
  pub source_starts : (source : ℕ) → Contains sources source → IsStart a (name_in names source)
  source_starts source has =
      let k : ℕ = has.0 in
      let below : k < length sources = has.1 in
      let same = same_count in
      let low : k < length a.starts = omega arith in
      let here : get_or sources k 0 ≡ source = get_or_default sources k 0 source below ∙ has.2 in
      let name : first_of (get_or a.starts k []) ≡ name_in names source = sym (named_start k below) ∙ ap (name_in names) here in
      subst (Contains a.starts) (single.starts (get_or a.starts k []) (Contains-get_or a.starts k [] low) ∙ ap (λ (state : ℕ). state ∷ []) name) (Contains-get_or a.starts k [] low)

  -- and each start has a source
  pub record SourceOf (state : ℕ) : Type 0 where
    pub source : ℕ
    pub has : Contains sources source
    pub below : source < length names
    pub named : name_in names source ≡ state

  pub start_source : (state : ℕ) → IsStart a state → SourceOf state
  start_source state begins =
      let k : ℕ = begins.0 in
      let same = same_count in
      let low : k < length a.starts = begins.1 in
      let below : k < length sources = omega arith in
      let here : get_or a.starts k [] ≡ state ∷ [] = get_or_default a.starts k [] (state ∷ []) low ∙ begins.2 in
      record {
        source = get_or sources k 0;
        has = Contains-get_or sources k 0 below;
        below = numbered.within k 0 below;
        named = named_start k below ∙ ap first_of here;
      }

-- the flags are those of the states that the edges reach
abbrev pub AreReached : LassoSearch → List Bool → Type 0
AreReached search states = (state : ℕ) → IsTrue (get_or states state false) ↔ Reaches search state

-- the usable edges that leave a state with a flag
abbrev pub kept : List Bool → LassoSearch → List ℕ
kept states search = edges_leaving states search.graph.now search.edges.now

-- a closed walk begins where its first edge does
first_leaves : (graph : MarkedGraph) (edges : EdgeSet) (walk : List ℕ) (closed : IsClosedEdgeWalk graph edges walk) → (graph (get_or walk 0 0)).from ≡ closed.loop_state
first_leaves graph edges walk closed = go walk closed.loop_state closed.longer closed.leads
  where
    go : (walk : List ℕ) (loop_state : ℕ) → 0 < length walk → IsEdgeWalk graph edges loop_state walk loop_state → (graph (get_or walk 0 0)).from ≡ loop_state
    go [] loop_state longer leads = absurd (omega arith)
    go (number ∷ walk) loop_state longer leads = leads.1

-- an edge of a closed walk of the edges that are kept is kept
kept_on : (search : LassoSearch) (states : List Bool) (cycle : List ℕ) → IsClosedEdgeWalk (graph_of search) (listed (kept states search)) cycle
    → (number : ℕ) → Contains cycle number → Contains search.edges.now number × (get_or states (ends_at search.graph.now number).from false ≡ true)
kept_on search states cycle closed number has =
    filter_has (λ n. get_or states (ends_at search.graph.now n).from false) search.edges.now number
    (listed_has (kept states search) number
    (on_edges (graph_of search) (listed (kept states search)) closed.loop_state cycle closed.loop_state closed.leads number has))

-- an accepting closed walk of usable edges, and a walk to it from a source
record CycleOf (search : LassoSearch) (cycle : List ℕ) : Type 0 where
  pub loop_state : ℕ
  pub come : Reaches search loop_state
  pub leads : IsEdgeWalk (graph_of search) (usable_of search) loop_state cycle loop_state
  pub longer : 0 < length cycle
  pub accepted : IsTrue (accepts (marks_on (graph_of search) cycle) search.formula.now)

-- an accepting closed walk of usable edges, which lead to its beginning from a source
pub record IsReachedCycle (search : LassoSearch) (cycle : List ℕ) : Type 0 where
  pub accepting : IsAcceptingCycle search cycle
  pub reached : Reaches search (beginning search cycle)

module _ (search : LassoSearch) where
  abbrev rows : List (List ℕ)
  rows = search.marks.now

  abbrev graph : Shape
  graph = search.graph.now

  abbrev sources : List ℕ
  sources = search.sources.now

  abbrev edges : List ℕ
  edges = search.edges.now

  abbrev formula : AccTree
  formula = search.formula.now

  -- the cycle of an accepting lasso is one
  cycle_of : (a : Description) → IsSearchIn a search → (stem cycle : List ℕ) → IsAcceptingLasso a stem cycle → CycleOf search cycle
  cycle_of a sought stem cycle lasso =
      let names : List ℕ = sought.names in
      let begin = start_source a sought.single names sources graph sought.numbered lasso.lasso.start lasso.lasso.begins in
      let there : TracedWalk a sought.single names sources graph sought.numbered edges sought.usable (row_at rows) begin.source stem lasso.lasso.loop_state =
      leads_to a sought.single names sources graph sought.numbered edges sought.usable (row_at rows) begin.source lasso.lasso.start stem lasso.lasso.loop_state
      begin.below begin.named lasso.lasso.stem_leads in
      let around : TracedWalk a sought.single names sources graph sought.numbered edges sought.usable (row_at rows) there.to cycle lasso.lasso.loop_state =
      leads_to a sought.single names sources graph sought.numbered edges sought.usable (row_at rows) there.to lasso.lasso.loop_state cycle lasso.lasso.loop_state
      there.below there.named lasso.lasso.cycle_leads in
      let same : around.to ≡ there.to = sought.numbered.apart around.to there.to around.below there.below (around.named ∙ sym there.named) in
      record {
        loop_state = there.to;
        come = (stem, record { source = begin.source; begins = begin.has; leads = there.leads });
        leads = subst (λ state. IsEdgeWalk (graph_of search) (usable_of search) there.to cycle state) same around.leads;
        longer = lasso.lasso.longer;
        accepted = same_acceptance a graph rows sought.marks_are cycle formula
            ∙ ap (λ (f : AccTree). accepts (map (marks_at a) cycle) f) (sym sought.formula_is) ∙ lasso.accepted;
      }

  -- if no closed walk accepts, no lasso does
  pub no_lasso : (a : Description) → IsSearchIn a search → (HasAccepting (graph_of search) (usable_of search) formula → ⊥)
      → (stem cycle : List ℕ) → IsAcceptingLasso a stem cycle → ⊥
  no_lasso a sought none stem cycle lasso =
      let found = cycle_of a sought stem cycle lasso in
      none (cycle, record { closed = record { loop_state = found.loop_state; leads = found.leads; longer = found.longer }; accepted = found.accepted })

  -- nor does one if no closed walk accepts that a source reaches
  pub no_lasso_reached : (a : Description) → IsSearchIn a search → (states : List Bool) → AreReached search states
      → (HasAccepting (graph_of search) (listed (kept states search)) formula → ⊥)
      → (stem cycle : List ℕ) → IsAcceptingLasso a stem cycle → ⊥
  no_lasso_reached a sought states reached none stem cycle lasso =
      let found = cycle_of a sought stem cycle lasso in
      none (
        cycle,
        record {
          closed = record {
            loop_state = found.loop_state;
            leads = walk_reached a sought.single sought.names sources graph sought.numbered edges sought.usable (row_at rows) states
                (λ state is. (reached state).1 is) found.loop_state cycle found.loop_state found.come found.leads;
            longer = found.longer;
          };
          accepted = found.accepted;
        },
      )

  -- the first edge of a closed walk is one of the graph
  pub first_inside : IsSearch search → (cycle : List ℕ) → IsAcceptingCycle search cycle → get_or cycle 0 0 < length graph.edges
  first_inside sought cycle accepting =
      let closed = accepting.closed in
      All-contains (λ number. number < length graph.edges) edges (get_or cycle 0 0) sought.edges
      (listed_has edges (get_or cycle 0 0)
      (on_edges (graph_of search) (usable_of search) closed.loop_state cycle closed.loop_state closed.leads (get_or cycle 0 0) (Contains-get_or cycle 0 0 closed.longer)))

  -- a closed walk that leaves reached states is reached
  pub cycle_reached : (states : List Bool) → AreReached search states → (cycle : List ℕ)
      → IsAccepting (graph_of search) (listed (kept states search)) formula cycle → IsReachedCycle search cycle
  cycle_reached states reached cycle accepting =
      let closed = accepting.closed in
      let first : Contains cycle (get_or cycle 0 0) = Contains-get_or cycle 0 0 closed.longer in
      record {
        accepting = record {
          closed = record {
            loop_state = closed.loop_state;
            leads = walk_in (graph_of search) (listed (kept states search)) (usable_of search) closed.loop_state cycle closed.loop_state
                (λ number has. listed_from edges number (kept_on search states cycle closed number has).0) closed.leads;
            longer = closed.longer;
          };
          accepted = accepting.accepted;
        };
        reached = (reached (beginning search cycle)).0 (kept_on search states cycle closed (get_or cycle 0 0) first).1;
      }

  -- an accepting closed walk and a walk to it are an accepting lasso
  pub is_lasso : (a : Description) → IsSearchIn a search → (stem cycle : List ℕ) → IsAcceptingCycle search cycle
      → IsWalkFrom (graph_of search) (usable_of search) sources stem (beginning search cycle) → IsAcceptingLasso a stem cycle
  is_lasso a sought stem cycle accepting way =
      let names : List ℕ = sought.names in
      let loop_state : ℕ = accepting.closed.loop_state in
      let enters : beginning search cycle ≡ loop_state = first_leaves (graph_of search) (usable_of search) cycle accepting.closed in
      record {
        lasso = record {
          start = name_in names way.source;
          loop_state = name_in names loop_state;
          begins = source_starts a sought.single names sources graph sought.numbered way.source way.begins;
          stem_leads = leads_from a sought.single names sources graph sought.numbered edges sought.usable (row_at rows) way.source stem loop_state
              (subst (λ state. IsEdgeWalk (graph_of search) (usable_of search) way.source stem state) enters way.leads);
          cycle_leads = leads_from a sought.single names sources graph sought.numbered edges sought.usable (row_at rows) loop_state cycle loop_state accepting.closed.leads;
          longer = accepting.closed.longer;
        };
        accepted = ap (λ (f : AccTree). accepts (map (marks_at a) cycle) f) sought.formula_is
            ∙ sym (same_acceptance a graph rows sought.marks_are cycle formula) ∙ accepting.accepted;
      }
