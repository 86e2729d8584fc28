-- What holds in the loop of `passed_edges`: the component has the edges so far that pass, and none before the index
-- does.
use Rattle.omega_graph.specs.private.Classes.{IsGathering, IsPassedBy}
use Rattle.omega_graph.proofs.plain.passed_edges.Given as goal

abbrev pub invariant-loop-other : goal.invariant-loop-other
invariant-loop-other l = IsGathering l.edges.numbers.now (IsPassedBy l.edges l.ahead l.behind) l.index l.other l.edge_component.items
