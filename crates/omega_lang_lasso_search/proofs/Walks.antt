-- Walks of usable edges in the graph are those of the automaton.
use Rattle.std.proofs.Common.{◌≡◌, ℕ, ◌<◌, Bool, true, false, not, ◌&&◌, ◌||◌, if◌then◌else◌, List, [], ◌∷◌, ◌++◌, length, get_or, filter, map, Contains, refl, sym, ap, ap₂, subst, ◌∙◌, arith}
use Rattle.std.proofs.lemmas.List.{length-map}
use Rattle.std.proofs.lemmas.List.Elements.{All-contains}
use Rattle.omega_hoa_acceptance.specs.Acceptance.{AccTree, accepts, conjunction, constant, disjunction, fin, holds, inf, occurs}
use Rattle.omega_hoa_automaton.specs.Automaton.{Description, edges_of}
use Rattle.omega_graph.specs.Graph.{Shape, ends_at, listed, marked}
use Rattle.omega_graph.specs.Reaching.{IsReachedAlong}
use Rattle.omega_graph.specs.declared.edge.Edge.{Edge}
use Rattle.omega_graph.specs.Walks.{IsEdgeWalk, MarkedGraph, marks_on}
use Rattle.omega_graph.proofs.ClosedWalking.{joined}
use Rattle.omega_graph_accepting_walk.specs.Rows.{row_at}
use Rattle.omega_graph_accepting_walk.proofs.Listing.{filter_keeps, listed_from, listed_has}
use Rattle.omega_lang_runs.specs.Lasso.{IsStep, Leads, marks_at, marks_of}
use Rattle.omega_lang_lasso_search.specs.Tabled.{AreUsableEdges, HasMarks, ListsOne}
use Rattle.omega_lang_lasso_search.specs.private.Numbering.{AreNumbered, ends_in, ends_of, first_of, name_in}
use Rattle.omega_lang_lasso_search.proofs.Edges.{rows_are, stands_for, stood_for}

-- the marks of edges are those of the automaton's
pub same_marks : (a : Description) (graph : Shape) (rows : List (List ℕ)) → rows ≡ map marks_of (edges_of a) → (walk : List ℕ)
    → marks_on (marked graph (row_at rows)) walk ≡ map (marks_at a) walk
same_marks a graph rows are [] = refl
same_marks a graph rows are (number ∷ walk) =
    let here : row_at rows number ≡ marks_at a number = ap (λ (list : List (List ℕ)). row_at list number) are ∙ rows_are (edges_of a) number in
    let rest = same_marks a graph rows are walk in
    cc

-- the marks of edges hold what those of the automaton's do, so a formula accepts the one exactly if it accepts the
-- other
module _ (a : Description) (graph : Shape) (rows : List (List ℕ)) (have : HasMarks a rows) (walk : List ℕ) where
  abbrev rows_on : List (List ℕ)
  rows_on = marks_on (marked graph (row_at rows)) walk

  occurs_same : (negated : Bool) (set : ℕ) → occurs rows_on negated set ≡ occurs (map (marks_at a) walk) negated set
  occurs_same negated set = go walk
    where
      go : (numbers : List ℕ) → occurs (marks_on (marked graph (row_at rows)) numbers) negated set ≡ occurs (map (marks_at a) numbers) negated set
      go [] = refl
      go (number ∷ numbers) = ap₂ ◌||◌ (ap (λ h. if negated then not h else h) (have number set)) (go numbers)

  pub same_acceptance : (f : AccTree) → accepts rows_on f ≡ accepts (map (marks_at a) walk) f
  same_acceptance (constant value) = refl
  same_acceptance (inf negated set) = occurs_same negated set
  same_acceptance (fin negated set) = ap not (occurs_same negated set)
  same_acceptance (conjunction left right) = ap₂ ◌&&◌ (same_acceptance left) (same_acceptance right)
  same_acceptance (disjunction left right) = ap₂ ◌||◌ (same_acceptance left) (same_acceptance right)

-- the marks of the edges themselves do
pub own_marks : (a : Description) → HasMarks a (map marks_of (edges_of a))
own_marks a number set = ap (holds set) (rows_are (edges_of a) number)

-- the graph has as many edges as the automaton
pub counted : (a : Description) (names sources : List ℕ) (graph : Shape) → AreNumbered a names sources graph → length graph.edges ≡ length (edges_of a)
counted a names sources graph numbered =
    sym (length-map graph.edges (ends_in names)) ∙ ap (λ (list : List Edge). length list) numbered.ends ∙ length-map (edges_of a) ends_of

module _ (a : Description) (single : ListsOne a) (names sources : List ℕ) (graph : Shape)
    (numbered : AreNumbered a names sources graph) (numbers : List ℕ) (usable : AreUsableEdges a numbers) (marks : ℕ → List ℕ) where
  abbrev pub traced : MarkedGraph
  traced = marked graph marks

  entered : (states : List ℕ) (target : ℕ) → states ≡ target ∷ [] → first_of states ≡ target
  entered states target is = ap first_of is

  -- a usable edge of the graph is a step
  pub step_from : (number : ℕ) → Contains numbers number
      → IsStep a (name_in names (ends_at graph number).from) number (name_in names (ends_at graph number).to)
  step_from number has =
      let low = All-contains (λ n. n < length (edges_of a)) numbers number usable.below has in
      let below : number < length graph.edges = let same = counted a names sources graph numbered in omega arith in
      let edge = stood_for names (edges_of a) graph.edges numbered.ends number below in
      let stands = stands_for names (edges_of a) graph.edges numbered.ends number edge.0 edge.1 in
      record {
        edge = edge.0;
        numbered = edge.1;
        usable = (usable.exact number edge.0 edge.1).0 has;
        leaves = sym stands.leaves;
        enters = single.edges number edge.0 edge.1 ∙ ap (λ (target : ℕ). target ∷ []) (sym stands.enters);
      }

  -- and a step is a usable edge of the graph
  pub record Traced (from number to : ℕ) : Type 0 where
    pub has : Contains numbers number
    pub below : number < length graph.edges
    pub leaves : name_in names (ends_at graph number).from ≡ from
    pub enters : name_in names (ends_at graph number).to ≡ to

  pub step_to : (from number to : ℕ) → IsStep a from number to → Traced from number to
  step_to from number to step =
      let stands = stands_for names (edges_of a) graph.edges numbered.ends number step.edge step.numbered in
      record {
        has = (usable.exact number step.edge step.numbered).1 step.usable;
        below = stands.below;
        leaves = stands.leaves ∙ step.leaves;
        enters = stands.enters ∙ entered step.edge.edge.targets to step.enters;
      }

  -- walks of the graph lead
  pub leads_from : (from : ℕ) (walk : List ℕ) (to : ℕ) → IsEdgeWalk traced (listed numbers) from walk to → Leads a (name_in names from) walk (name_in names to)
  leads_from from [] to leads = ap (name_in names) leads
  leads_from from (number ∷ walk) to leads =
      let has = listed_has numbers number leads.0 in
      let step = step_from number has in (
        name_in names (ends_at graph number).to,
        subst (λ state. IsStep a state number (name_in names (ends_at graph number).to)) (ap (name_in names) leads.1) step,
        leads_from (ends_at graph number).to walk to leads.2,
      )

  -- and what leads is a walk of the graph
  pub record TracedWalk (from : ℕ) (walk : List ℕ) (state : ℕ) : Type 0 where
    pub to : ℕ
    pub below : to < length names
    pub named : name_in names to ≡ state
    pub leads : IsEdgeWalk traced (listed numbers) from walk to

  pub leads_to : (from : ℕ) (first : ℕ) (walk : List ℕ) (last : ℕ) → from < length names → name_in names from ≡ first → Leads a first walk last
      → TracedWalk from walk last
  leads_to from first [] last below named leads = record { to = from; below = below; named = named ∙ leads; leads = refl }
  leads_to from first (number ∷ walk) last below named leads =
      let step = step_to first number leads.0 leads.1 in
      let ends = numbered.inside number (record { from = 0; to = 0 }) step.below in
      let same : (ends_at graph number).from ≡ from = numbered.apart (ends_at graph number).from from ends.0 below (step.leaves ∙ sym named) in
      let rest = leads_to (ends_at graph number).to leads.0 walk last ends.1 step.enters leads.2 in
      record {
        to = rest.to;
        below = rest.below;
        named = rest.named;
        leads = (listed_from numbers number step.has, same, rest.leads);
      }

  -- a walk from a reached state reaches more
  reached_on : (from number : ℕ) → IsReachedAlong traced (listed numbers) sources from → listed numbers number ≡ true → (ends_at graph number).from ≡ from
      → IsReachedAlong traced (listed numbers) sources (ends_at graph number).to
  reached_on from number reached is leaves = (
    reached.0 ++ number ∷ [],
    record {
      source = reached.1.source;
      begins = reached.1.begins;
      leads = joined traced (listed numbers) reached.1.source reached.0 from (number ∷ []) (ends_at graph number).to reached.1.leads (is, leaves, refl);
    },
  )

  -- a walk from a reached state stays in the edges that leave such states
  pub walk_reached : (states : List Bool)
      → ((state : ℕ) → IsReachedAlong traced (listed numbers) sources state → get_or states state false ≡ true)
      → (from : ℕ) (walk : List ℕ) (to : ℕ) → IsReachedAlong traced (listed numbers) sources from → IsEdgeWalk traced (listed numbers) from walk to
      → IsEdgeWalk traced (listed (filter (λ number. get_or states (ends_at graph number).from false) numbers)) from walk to
  walk_reached states are from [] to reached leads = leads
  walk_reached states are from (number ∷ walk) to reached leads = (
    listed_from (filter (λ number. get_or states (ends_at graph number).from false) numbers) number
        (filter_keeps (λ number. get_or states (ends_at graph number).from false) numbers number (listed_has numbers number leads.0)
        (ap (λ state. get_or states state false) leads.1 ∙ are from reached)),
    leads.1,
    walk_reached states are (ends_at graph number).to walk to (reached_on from number reached leads.0 leads.1) leads.2,
  )
