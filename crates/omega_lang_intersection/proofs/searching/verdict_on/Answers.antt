-- the verdict on the table of the graph
use Rattle.std.proofs.Common.{List, length, sym, ap, subst, ◌∙◌, ℕ}
use Rattle.std.proofs.lemmas.List.{length-map}
use Rattle.std.proofs.lemmas.Result.{IfOk-weaker}
use Rattle.omega_graph.specs.Graph.{edge_of}
use Rattle.omega_graph.specs.declared.edge.Edge.{Edge}
use Rattle.omega_lang_lasso_search.specs.Tabled.{IsTabled}
use Rattle.omega_lang_lasso_search.proofs.Tables.{on_automaton}
use Rattle.omega_lang_product.specs.JointEdges.{Joint, marks_of_both}
use Rattle.omega_lang_product.specs.PairGraph.{joints_of}
use Rattle.omega_lang_intersection.proofs.searching.verdict_on.Goals as goal

pub lasso_in_table-requires : goal.lasso_in_table-requires
lasso_in_table-requires c =
    let is = c.requires.2 in
    let joints : List Joint = joints_of c.requires.0 c.requires.1 is.pairs in
    ap length (c.as_slice-3.ensures.value ∙ is.edges.marks) ∙ length-map joints marks_of_both
    ∙ sym (length-map joints (λ (j : Joint). edge_of j.from j.to)) ∙ sym (ap length (c.as_slice-2.ensures.value ∙ is.edges.ends))

pub returns-clause-verdict : goal.returns-clause-verdict
returns-clause-verdict c =
    IfOk-weaker c.lasso_in_table.result _ _
    (λ verdict right a has.
    (let graph = c.args.graph.now in
    let tabled = subst (λ (starts : List ℕ). IsTabled starts c.as_slice-2.result.now c.as_slice-3.result.now graph.acceptance a) (sym c.as_slice.ensures.value)
    (subst (λ (ends : List Edge). IsTabled graph.starts.items ends c.as_slice-3.result.now graph.acceptance a) (sym c.as_slice-2.ensures.value)
    (subst (λ (marks : List (List ℕ)). IsTabled graph.starts.items graph.edges.ends.items marks graph.acceptance a) (sym c.as_slice-3.ensures.value) has.tabled)) in
    on_automaton c.as_slice.result.now c.as_slice-2.result.now c.as_slice-3.result.now graph.acceptance a tabled has.usable verdict right))
    c.lasso_in_table.ensures.verdict
