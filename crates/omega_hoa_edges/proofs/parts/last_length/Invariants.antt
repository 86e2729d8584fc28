-- So many labels are wanted in front of the nodes that are left.
use Rattle.std.proofs.Common.{◌≡◌, ◌<◌, ◌≤◌, ◌+◌, length}
use Rattle.omega_hoa_edges.specs.private.Stacked.{AreWanted}
use Rattle.omega_hoa_edges.proofs.parts.last_length.Given as goal

abbrev pub invariant-loop-wanted : goal.invariant-loop-wanted
invariant-loop-wanted l =
    AreWanted l.nodes l.left l.wanted × (l.wanted + length l.left ≤ length l.nodes + 1) × (length l.left ≤ length l.nodes)
    × (l.wanted ≡ 0 → length l.left < length l.nodes)

abbrev pub decreases-loop-wanted : goal.decreases-loop-wanted
decreases-loop-wanted l = length l.left
