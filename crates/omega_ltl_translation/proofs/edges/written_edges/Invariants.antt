use Rattle.std.proofs.Common.{take}
use Rattle.std.specs.List.{AllZip}
use Rattle.omega_ltl_translation.specs.private.Written.{IsWrittenEdge}
use Rattle.omega_ltl_translation.proofs.edges.written_edges.Given as goal

-- the edges so far
abbrev pub invariant-loop-edge : goal.invariant-loop-edge
invariant-loop-edge l = AllZip (IsWrittenEdge l.sets) (take l.edge-index l.joined) l.written
