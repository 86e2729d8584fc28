use Rattle.std.proofs.Common.{take}
use Rattle.omega_ltl_translation.specs.private.Joining.{AreJoined}
use Rattle.omega_ltl_translation.proofs.joining.joined_edges.Given as goal

-- the edges so far are joined
abbrev pub invariant-loop-edge : goal.invariant-loop-edge
invariant-loop-edge l = AreJoined (take l.edge-index l.edges) l.joined.items
