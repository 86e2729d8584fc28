-- the nodes so far have numbers of the copy, and so has what stands for nodes that are not needed
use Rattle.std.proofs.Common.{◌≡◌, ◌<◌, length}
use Rattle.omega_ltl_deterministic.specs.private.Copying.{AreWithin}
use Rattle.omega_ltl_deterministic.proofs.leaf_formula.copied_root.Given as goal

abbrev pub invariant-loop-node : goal.invariant-loop-node
invariant-loop-node l =
    (length l.numbers.items ≡ l.node-index) × ((l.spare < length l.copy.nodes) × AreWithin l.copy l.numbers.items)
