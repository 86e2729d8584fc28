-- an edge that meets the set, or none
use Rattle.std.proofs.Common.{◌≡◌, ◌<◌, ℕ, List, false, get_or, length, sym, subst, ◌∙◌, arith}
use Rattle.std.proofs.lemmas.List.{get_or_default}
use Rattle.std.proofs.lemmas.List.Elements.{Contains-get_or}
use Rattle.omega_graph.specs.Marks.{meets}
use Rattle.omega_graph.specs.Walks.{MarkedGraph}
use Rattle.omega_graph.proofs.Passing.{met_on, unmet}
use Rattle.omega_graph_accepting_walk.specs.Rows.{row_at}
use Rattle.omega_lang_trim.proofs.occurring.occurs.Goals as goal

-- edges with these marks, wherever they lead
abbrev graph_of : List (List ℕ) → MarkedGraph
graph_of rows number = record { from = 0; to = 0; marks = row_at rows number }

pub returns-then-edge_meets : goal.returns-then-edge_meets
returns-then-edge_meets c =
    sym (met_on (graph_of c.args.marks.now) c.args.negated c.args.set c.args.edges.now (get_or c.args.edges.now c.loop-edge.edge-index 0)
    (Contains-get_or c.args.edges.now c.loop-edge.edge-index 0 c.loop-edge-test.true) (sym c.edge_meets.ensures ∙ c.if-edge_meets.true))

pub returns : goal.returns
returns c =
    sym (unmet (graph_of c.args.marks.now) c.args.negated c.args.set c.args.edges.now
    (λ number has.
    let below : has.0 < length c.args.edges.now = has.1 in
    subst (λ (edge : ℕ). meets c.args.negated c.args.set (row_at c.args.marks.now edge) ≡ false)
    (get_or_default c.args.edges.now has.0 0 number has.1 ∙ has.2) (c.loop-edge.invariant has.0 (omega arith))))
