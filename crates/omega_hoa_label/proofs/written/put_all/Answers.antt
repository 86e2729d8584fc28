-- A node makes its part of those before it.
use Rattle.std.proofs.Common.{[], ap, ◌∙◌}
use Rattle.omega_hoa_label.specs.private.layout.Parts.{parts_after, whole_nodes}
use Rattle.omega_hoa_label.proofs.PartLemmas.{parts-last}
use Rattle.omega_hoa_label.proofs.written.put_all.Goals as goal

pub loop-node-preserved : goal.loop-node-preserved
loop-node-preserved c =
    c.in_ok-put.ensures.ok (parts_after [] c.in-Some.before.now)
    ∙ (ap (whole_nodes c.loop-node.grouping) (parts-last c.loop-node.left.now c.in-Some.before.now c.in-Some.node.now c.in-Some.ensures.cases)
    ∙ c.loop-node.invariant)
