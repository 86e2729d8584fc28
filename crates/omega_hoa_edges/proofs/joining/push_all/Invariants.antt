-- The nodes of the labels so far, joined.
use Rattle.std.proofs.Common.{◌≡◌, ◌++◌, List, fold, take}
use Rattle.omega_hoa_label.specs.Label.{LabelTree, conjunction}
use Rattle.omega_hoa_label.specs.Postfix.{postfix}
use Rattle.omega_hoa_label.specs.declared.label.LabelNode.{LabelNode}
use Rattle.omega_hoa_edges.proofs.joining.push_all.Given as goal

abbrev pub invariant-loop-other : goal.invariant-loop-other
invariant-loop-other l =
    (front : List LabelNode) (first : LabelTree) → l.initial.nodes ≡ front ++ postfix first
    → l.nodes ≡ front ++ postfix (fold conjunction first (take l.other-index l.others))
