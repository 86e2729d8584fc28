-- the walk has its ends among the edges, and closes
use Rattle.std.proofs.Common.{◌++◌, ℕ, List, Contains, get_or, sym, ap, subst, ◌∙◌}
use Rattle.omega_graph.specs.Walks.{IsEdgeWalk}
use Rattle.omega_graph.specs.Graph.{listed}
use Rattle.omega_graph_accepting_walk.specs.Rows.{row_at}
use Rattle.omega_graph_accepting_walk.specs.private.Search.{graph_of}
use Rattle.omega_graph_accepting_walk.specs.private.Tours.{last_of}
use Rattle.omega_graph_accepting_walk.proofs.Tours.{first_among, last_among, onward_closes}
use Rattle.omega_graph_accepting_walk.proofs.touring.closed_walk.Goals as goal

pub way_on-requires-clause-last : goal.way_on-requires-clause-last
way_on-requires-clause-last c =
    subst (λ (walk : List ℕ). Contains c.args.edges.now (last_of walk)) (sym c.as_slice-so_far.ensures.value)
    (last_among (graph_of c.args.search.now) c.args.edges.now c.args.walked.walk.items c.requires.walked.onward)

pub way_on-requires-clause-next : goal.way_on-requires-clause-next
way_on-requires-clause-next c =
    subst (λ (walk : List ℕ). Contains c.args.edges.now (get_or walk 0 0)) (sym c.as_slice-so_far.ensures.value)
    (first_among (graph_of c.args.search.now) c.args.edges.now c.args.walked.walk.items c.requires.walked.onward)

pub returns-clause-closed : goal.returns-clause-closed
returns-clause-closed c =
    let walk : List ℕ = c.args.walked.walk.items in
    let leads : IsEdgeWalk (graph_of c.args.search.now) (listed c.args.edges.now) (graph_of c.args.search.now (last_of walk)).to c.in_ok-way.way.items
    (graph_of c.args.search.now (get_or walk 0 0)).from =
    subst (λ (so_far : List ℕ). IsEdgeWalk (graph_of c.args.search.now) (listed c.args.edges.now) (graph_of c.args.search.now (last_of so_far)).to c.in_ok-way.way.items
    (graph_of c.args.search.now (get_or so_far 0 0)).from) c.as_slice-so_far.ensures.value
    (c.in_ok-way.ensures.leads (row_at c.args.search.now.marks.now)) in
    onward_closes (graph_of c.args.search.now) c.args.edges.now walk c.in_ok-way.way.items c.extend_from_slice.new.self.items c.requires.walked.onward leads
    (c.in_ok-extend_from_slice.ensures.items ∙ ap (λ (way : List ℕ). walk ++ way) c.as_slice.ensures.value)
