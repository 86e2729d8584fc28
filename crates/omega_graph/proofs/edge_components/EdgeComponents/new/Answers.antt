-- `EdgeComponents::new`: no component, which takes no memory.
use Rattle.std.proofs.Common.{refl}
use Rattle.omega_text.specs.JoinedLists.{lists_of}
use Rattle.omega_graph.proofs.edge_components.EdgeComponents.new.Goals as goal

pub returns : goal.returns
unfolding lists_of
returns c = rw c.new.ensures.items refl
