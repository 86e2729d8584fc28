-- `edge`: an edge of a state of the automaton.
use Rattle.omega_hoa_automaton.specs.Automaton.{IsEdge}
use Rattle.omega_hoa_dot.proofs.Bodies.{at_place}
use Rattle.omega_hoa_dot.proofs.state_edges.StateEdges.edge.Goals as goal

pub returns : goal.returns
returns c = record {
  edge =
      at_place (IsEdge c.args.self.now.automaton.now) c.args.self.now.state.now.edges c.args.index c.edge.result c.requires.roles.state.edges
      c.requires.within c.edge.ensures;
  within = c.requires.within;
  here = c.edge.ensures;
}
