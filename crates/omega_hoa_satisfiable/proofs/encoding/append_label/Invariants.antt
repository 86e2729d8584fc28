-- Once the nodes that are left are encoded, the label is.
use Rattle.std.proofs.Common.{true, length}
use Rattle.omega_hoa_satisfiable.specs.private.Encoding.{IsEncoded}
use Rattle.omega_hoa_satisfiable.specs.private.Leading.{ArePlanned}
use Rattle.omega_hoa_satisfiable.specs.private.Remaining.{AreLeft}
use Rattle.omega_hoa_satisfiable.proofs.encoding.append_label.Given as goal

abbrev pub invariant-loop-node : goal.invariant-loop-node
invariant-loop-node l =
    ArePlanned l.steps.items
    × AreLeft (λ new start. IsEncoded l.fn.steps.items new l.label true l.fn.exits start) l.left l.steps.items l.part l.waiting l.place

abbrev pub decreases-loop-node : goal.decreases-loop-node
decreases-loop-node l = length l.left
