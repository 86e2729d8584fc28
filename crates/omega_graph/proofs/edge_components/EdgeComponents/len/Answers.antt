-- `EdgeComponents::len`: the number of components.
use Rattle.std.proofs.Common.{ap, length, arith}
use Rattle.omega_text.proofs.JoinedLists.{length-lists_of}
use Rattle.omega_graph.proofs.edge_components.EdgeComponents.len.Goals as goal

pub returns : goal.returns
returns c = omega (arith, c.len.ensures, length-lists_of c.self.inside.starts.items c.self.inside.edges.items, ap length c.self.view_is)
