-- The nodes that are left make the rest of the text.
use Rattle.std.proofs.Common.{◌≡◌, [], length}
use Rattle.omega_hoa_expression.specs.Texts.{whole_text}
use Rattle.omega_hoa_label.specs.private.layout.Texts.{texts_after}
use Rattle.omega_hoa_label.proofs.writing.put_nodes.Given as goal

abbrev pub invariant-loop-node : goal.invariant-loop-node
invariant-loop-node l = whole_text l.text (texts_after [] l.left) ≡ whole_text l.fn.text (texts_after [] l.fn.nodes)

abbrev pub decreases-loop-node : goal.decreases-loop-node
decreases-loop-node l = length l.left
