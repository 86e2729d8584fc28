-- `targets`: those before this one, and those of the edges left, are all.
use Rattle.std.proofs.Common.{◌≡◌, ◌++◌, drop}
use Rattle.omega_hoa_dot.specs.private.layout.Drawing.{drawn_all}
use Rattle.omega_hoa_dot.specs.private.layout.Sharing.{targets_of}
use Rattle.omega_hoa_dot.proofs.state_edges.StateEdges.targets.Given as goal

abbrev pub invariant-loop-index : goal.invariant-loop-index
invariant-loop-index l = l.targets.items ++ targets_of (drop l.index (drawn_all l.self)) ≡ targets_of (drawn_all l.self)
