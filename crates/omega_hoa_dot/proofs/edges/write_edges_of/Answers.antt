-- `write_edges_of`: an edge more, and the end.
use Rattle.std.proofs.Common.{◌≡◌, ℕ, ◌+◌, ◌≤◌, List, ◌++◌, length, drop, sym, ap, ◌∙◌, arith}
use Rattle.std.proofs.lemmas.List.{append-nil, drop_all}
use Rattle.omega_hoa_automaton.specs.declared.edge.Edge.{Edge}
use Rattle.omega_text.specs.Numbered.{numbered}
use Rattle.omega_hoa_dot.specs.Arrows.{Drawn, edge_text}
use Rattle.omega_hoa_dot.specs.private.layout.Drawing.{drawn_all, drawn_at}
use Rattle.omega_hoa_dot.specs.private.layout.Marking.{role_at}
use Rattle.omega_hoa_dot.proofs.Bodies.{part_written}
use Rattle.omega_hoa_dot.proofs.Drawn.{drawn_left, length-drawn}
use Rattle.omega_hoa_dot.proofs.edges.write_edges_of.Goals as goal

pub returns-clause-ok : goal.returns-clause-ok
returns-clause-ok c =
    let drawn : List Drawn = drawn_all c.args.edges.now in
    let edges : List Edge = c.args.edges.now.state.now.edges in
    let count : length drawn ≡ length edges =
    length-drawn c.args.edges.now.automaton.now.propositions (role_at c.args.edges.now.roles.now) c.args.edges.now.first c.args.edges.now.state.now 0 edges in
    let all : length drawn ≤ c.loop-index.index = omega (arith, count, c.loop-index-test.false, c.len-index-end.ensures) in
    sym (append-nil c.loop-index.out.items)
    ∙ ap (λ (list : List Drawn). c.loop-index.out.items ++ numbered (edge_text c.args.edges.now.state.now.number drawn) c.loop-index.index list)
    (sym (drop_all c.loop-index.index drawn all))
    ∙ c.loop-index.invariant

pub loop-index-preserved : goal.loop-index-preserved
loop-index-preserved c =
    let index : ℕ = c.loop-index.index in
    let drawn : List Drawn = drawn_all c.args.edges.now in
    let one : Drawn = drawn_at c.args.edges.now index c.edge-edge.result in
    let text : ℕ → Drawn → List ℕ = edge_text c.args.edges.now.state.now.number drawn in
    part_written (text index one) (numbered text (index + 1) (drop (index + 1) drawn)) (numbered text index (drop index drawn))
    c.loop-index.out.items _ _
    (ap (numbered text index)
    (drawn_left c.args.edges.now.automaton.now.propositions (role_at c.args.edges.now.roles.now) c.args.edges.now.first c.args.edges.now.state.now
    index c.args.edges.now.state.now.edges c.edge-edge.result c.edge-edge.ensures.within c.edge-edge.ensures.here))
    c.in_ok-write_edge.ensures.ok c.loop-index.invariant
