-- the walk goes on, and its sets with it
use Rattle.std.proofs.Common.{◌≡◌, ◌++◌, ◌∷◌, [], ℕ, List, length, take, Contains, sym, ap, subst, ◌∙◌}
use Rattle.omega_graph.specs.Walks.{IsEdgeWalk}
use Rattle.omega_graph.specs.Graph.{listed}
use Rattle.omega_graph_accepting_walk.specs.Rows.{row_at}
use Rattle.omega_graph_accepting_walk.specs.private.Search.{HaveMarks, graph_of}
use Rattle.omega_graph_accepting_walk.specs.private.Tours.{last_of}
use Rattle.omega_graph_accepting_walk.specs.private.Walks.{AreSetsOn}
use Rattle.omega_graph_accepting_walk.proofs.Tours.{among_below, begins_so, last_among, onward_among, onward_more}
use Rattle.omega_graph_accepting_walk.proofs.touring.pass.Goals as goal

pub way_on-requires-clause-last : goal.way_on-requires-clause-last
way_on-requires-clause-last c =
    subst (λ (walk : List ℕ). Contains c.args.edges.now (last_of walk)) (sym c.as_slice-so_far.ensures.value)
    (last_among (graph_of c.args.search.now) c.args.edges.now c.args.walked.now.walk.items c.requires.walked.onward)

pub add_edges-requires-clause-edges : goal.add_edges-requires-clause-edges
add_edges-requires-clause-edges c =
    let walk : List ℕ = c.args.walked.now.walk.items in
    let grown : c.push.new.self.items ≡ (walk ++ c.in_ok-way.way.items) ++ c.args.edge ∷ [] =
    c.in_ok-push.ensures.items
    ∙ ap (λ (list : List ℕ). list ++ c.args.edge ∷ []) (c.in_ok-extend_from_slice.ensures.items ∙ ap (λ (way : List ℕ). walk ++ way) c.as_slice.ensures.value) in
    let leads : IsEdgeWalk (graph_of c.args.search.now) (listed c.args.edges.now) (graph_of c.args.search.now (last_of walk)).to c.in_ok-way.way.items
    (graph_of c.args.search.now c.args.edge).from =
    subst (λ (so_far : List ℕ). IsEdgeWalk (graph_of c.args.search.now) (listed c.args.edges.now) (graph_of c.args.search.now (last_of so_far)).to c.in_ok-way.way.items
    (graph_of c.args.search.now c.args.edge).from) c.as_slice-so_far.ensures.value
    (c.in_ok-way.ensures.leads (row_at c.args.search.now.marks.now)) in
    let onward = onward_more (graph_of c.args.search.now) c.args.edges.now walk c.in_ok-way.way.items c.push.new.self.items c.args.edge c.requires.walked.onward c.requires.edge leads grown in
    subst (HaveMarks c.args.search.now) (sym c.as_slice-2.ensures.value)
    (among_below (length c.args.search.now.marks.now) c.args.edges.now c.push.new.self.items c.requires.marks
    (onward_among (graph_of c.args.search.now) c.args.edges.now c.push.new.self.items onward))

pub add_edges-requires-clause-before : goal.add_edges-requires-clause-before
add_edges-requires-clause-before c =
    let walk : List ℕ = c.args.walked.now.walk.items in
    let grown : c.push.new.self.items ≡ (walk ++ c.in_ok-way.way.items) ++ c.args.edge ∷ [] =
    c.in_ok-push.ensures.items
    ∙ ap (λ (list : List ℕ). list ++ c.args.edge ∷ []) (c.in_ok-extend_from_slice.ensures.items ∙ ap (λ (way : List ℕ). walk ++ way) c.as_slice.ensures.value) in
    let front : take (length c.as_slice-so_far.result.now) c.as_slice-2.result.now ≡ walk =
    begins_so walk c.as_slice-so_far.result.now c.in_ok-way.way.items c.as_slice-2.result.now c.args.edge c.as_slice-so_far.ensures.value
    (c.as_slice-2.ensures.value ∙ grown) in
    subst (λ (list : List ℕ). AreSetsOn (graph_of c.args.search.now) list c.args.walked.now.sets.items) (sym front) c.requires.walked.sets

pub returns-clause-walked : goal.returns-clause-walked
returns-clause-walked c =
    let walk : List ℕ = c.args.walked.now.walk.items in
    let grown : c.push.new.self.items ≡ (walk ++ c.in_ok-way.way.items) ++ c.args.edge ∷ [] =
    c.in_ok-push.ensures.items
    ∙ ap (λ (list : List ℕ). list ++ c.args.edge ∷ []) (c.in_ok-extend_from_slice.ensures.items ∙ ap (λ (way : List ℕ). walk ++ way) c.as_slice.ensures.value) in
    let leads : IsEdgeWalk (graph_of c.args.search.now) (listed c.args.edges.now) (graph_of c.args.search.now (last_of walk)).to c.in_ok-way.way.items
    (graph_of c.args.search.now c.args.edge).from =
    subst (λ (so_far : List ℕ). IsEdgeWalk (graph_of c.args.search.now) (listed c.args.edges.now) (graph_of c.args.search.now (last_of so_far)).to c.in_ok-way.way.items
    (graph_of c.args.search.now c.args.edge).from) c.as_slice-so_far.ensures.value
    (c.in_ok-way.ensures.leads (row_at c.args.search.now.marks.now)) in
    record {
      onward = onward_more (graph_of c.args.search.now) c.args.edges.now walk c.in_ok-way.way.items c.push.new.self.items c.args.edge c.requires.walked.onward c.requires.edge leads grown;
      sets = subst (λ (list : List ℕ). AreSetsOn (graph_of c.args.search.now) list c.add_edges.new.sets.items) c.as_slice-2.ensures.value c.add_edges.ensures.sets;
    }
