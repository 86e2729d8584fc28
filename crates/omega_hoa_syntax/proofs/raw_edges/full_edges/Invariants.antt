-- What holds in the loop of `full_edges`: the edges so far lie as they are.
use Rattle.std.proofs.Common.{◌≡◌, map, take}
use Rattle.omega_hoa_syntax.specs.Edges.{lengthened}
use Rattle.omega_hoa_syntax.proofs.raw_edges.full_edges.Given as goal

abbrev pub invariant-loop-edge : goal.invariant-loop-edge
invariant-loop-edge l = l.full.items ≡ map lengthened (take l.edge-index l.edges)
