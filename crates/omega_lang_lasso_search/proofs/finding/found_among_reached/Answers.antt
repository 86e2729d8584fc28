-- no closed walk accepts, or one does and a stem leads to it
use Rattle.std.proofs.Common.{◌≡◌, ◌<◌, ℕ, Bool, false, List, get_or, length, All, sym, subst, ◌∙◌}
use Rattle.std.proofs.lemmas.List.Elements.{All-filter}
use Rattle.omega_hoa_acceptance.specs.Acceptance.{AccTree}
use Rattle.omega_graph.specs.Graph.{ends_at, listed}
use Rattle.omega_graph.specs.Walks.{HasAccepting, IsAccepting}
use Rattle.omega_graph_accepting_walk.specs.Rows.{row_at}
use Rattle.omega_lang_lasso_search.specs.declared.search.LassoSearch.{LassoSearch}
use Rattle.omega_lang_lasso_search.specs.private.Searched.{Reaches, beginning, graph_of}
use Rattle.omega_lang_lasso_search.proofs.Lassos.{AreReached, IsReachedCycle, cycle_reached, kept, no_lasso_reached}
use Rattle.omega_lang_lasso_search.proofs.finding.found_among_reached.Goals as goal

pub accepting_walk-requires-clause-edges : goal.accepting_walk-requires-clause-edges
accepting_walk-requires-clause-edges c =
    let search : LassoSearch = c.args.search.now in
    let states : List Bool = c.as_slice-flags.result.now in
    subst (λ (edges : List ℕ). All (λ number. number < length search.graph.now.edges) edges) (sym (c.as_slice-kept.ensures.value ∙ c.in_ok-edges.ensures.left))
    (All-filter (λ number. get_or states (ends_at search.graph.now number).from false) (λ number. number < length search.graph.now.edges) search.edges.now
    c.requires.edges)

pub returns-in-None-clause-verdict : goal.returns-in-None-clause-verdict
returns-in-None-clause-verdict c =
    let search : LassoSearch = c.args.search.now in
    let states : List Bool = c.as_slice-flags.result.now in
    let same_edges : c.as_slice-kept.result.now ≡ kept states search = c.as_slice-kept.ensures.value ∙ c.in_ok-edges.ensures.left in
    let reached : AreReached search states =
    subst (AreReached search) (sym c.as_slice-flags.ensures.value) (λ state. c.in_ok-states.ensures.reached (row_at search.marks.now) state) in
    let none = rw c.in-None.is at c.in_ok-found.ensures.none in
    λ a sought. no_lasso_reached c.args.search.now a sought states reached
    (λ has. none (subst (λ (edges : List ℕ). HasAccepting (graph_of search) (listed edges) search.formula.now) (sym same_edges) has))

pub with_stem-requires-clause-cycle : goal.with_stem-requires-clause-cycle
with_stem-requires-clause-cycle c =
    let search : LassoSearch = c.args.search.now in
    let states : List Bool = c.as_slice-flags.result.now in
    let tree : AccTree = search.formula.now in
    let same_edges : c.as_slice-kept.result.now ≡ kept states search = c.as_slice-kept.ensures.value ∙ c.in_ok-edges.ensures.left in
    let reached : AreReached search states =
    subst (AreReached search) (sym c.as_slice-flags.ensures.value) (λ state. c.in_ok-states.ensures.reached (row_at search.marks.now) state) in
    let walk = rw c.in-Some.is at c.in_ok-found.ensures.walk in
    let is : IsReachedCycle search c.as_slice-walk.result.now =
    cycle_reached search states reached c.as_slice-walk.result.now
    (subst (λ (cycle : List ℕ). IsAccepting (graph_of search) (listed (kept states search)) tree cycle) (sym c.as_slice-walk.ensures.value)
    (subst (λ (edges : List ℕ). IsAccepting (graph_of search) (listed edges) tree c.in-Some.cycle.items) same_edges walk)) in
    is.accepting

pub unreachable-requires : goal.unreachable-requires
unreachable-requires c =
    let search : LassoSearch = c.args.search.now in
    let states : List Bool = c.as_slice-flags.result.now in
    let tree : AccTree = search.formula.now in
    let same_edges : c.as_slice-kept.result.now ≡ kept states search = c.as_slice-kept.ensures.value ∙ c.in_ok-edges.ensures.left in
    let reached : AreReached search states =
    subst (AreReached search) (sym c.as_slice-flags.ensures.value) (λ state. c.in_ok-states.ensures.reached (row_at search.marks.now) state) in
    let walk = rw c.in-Some.is at c.in_ok-found.ensures.walk in
    let is : IsReachedCycle search c.as_slice-walk.result.now =
    cycle_reached search states reached c.as_slice-walk.result.now
    (subst (λ (cycle : List ℕ). IsAccepting (graph_of search) (listed (kept states search)) tree cycle) (sym c.as_slice-walk.ensures.value)
    (subst (λ (edges : List ℕ). IsAccepting (graph_of search) (listed edges) tree c.in-Some.cycle.items) same_edges walk)) in
    let none : Reaches search (beginning search c.as_slice-walk.result.now) → ⊥ = rw c.in-None-2.is at c.in_ok-verdict-in-Some.ensures.none in
    none is.reached
