-- `edge_component_at`: the class of the edge at an index.
use Rattle.std.proofs.Common.{length, refl}
use Rattle.omega_graph.proofs.Apart.{all_below}
use Rattle.omega_graph.proofs.Classes.{passed_class}
use Rattle.omega_graph.proofs.plain.edge_component_at.Goals as goal

pub passed_edges-requires-clause-leaves : goal.passed_edges-requires-clause-leaves
passed_edges-requires-clause-leaves c =
    all_below c.args.edges.now.leaves.now c.args.edges.now.leaves.now c.args.edges.now.count (length c.in_ok-ahead.ahead.marks) refl c.in_ok-ahead.ensures.count_is c.requires.inside.leaves

pub passed_edges-requires-clause-enters : goal.passed_edges-requires-clause-enters
passed_edges-requires-clause-enters c =
    all_below c.args.edges.now.enters.now c.args.edges.now.enters.now c.args.edges.now.count (length c.in_ok-behind.behind.marks) refl c.in_ok-behind.ensures.count_is c.requires.inside.enters

pub returns : goal.returns
returns c =
    λ graph ends.
    passed_class graph c.args.edges.now.numbers.now c.args.edges.now.leaves.now c.args.edges.now.enters.now ends c.args.edges.now.count c.args.index c.requires.index c.from_ref-2.result.now c.from_ref.result.now c.from_ref.ensures.value c.from_ref-2.ensures.value
    c.in_ok-ahead.ahead c.in_ok-behind.behind c.in_ok-ahead.ensures c.in_ok-behind.ensures c.in_ok-edge_component.edge_component.items c.in_ok-edge_component.ensures
