-- Labels of trees of boxes: what makes nodes a label, and where one is too large.
use Rattle.std.proofs.Common.{◌≡◌, ◌<◌, ◌≤◌, cond, ltb, List, None, Some, Result, Ok, Err, IfOk, OnOk, ap, sym, ◌∙◌, arith}
use Rattle.std.proofs.lemmas.Bool.{le-ltb, lt-ltb}
use Rattle.omega_text.specs.declared.refusal.automaton.AutomatonFault.TheVariants.{Expansion, TooDeep}
use Rattle.omega_hoa_label.specs.Label.{LabelTree, label_depth, label_size}
use Rattle.omega_hoa_label.specs.Shape.{fault_of_label}
use Rattle.omega_hoa_label.specs.Postfix.{postfix}
use Rattle.omega_hoa_label.specs.private.layout.Label.{IsLabelInPostfix, tree_of, tree_of-postfix}
use Rattle.omega_hoa_label.specs.declared.label.LabelNode.{LabelNode}

-- what holds of a value follows from what else holds of it
pub value_then : {A E : Type 0} (result : Result A E) (said wanted_of : A → Type 0) → IfOk result said → ((value : A) → said value → wanted_of value) → IfOk result wanted_of
value_then (Ok value) said wanted_of is follows = follows value is
value_then (Err error) said wanted_of is follows = tt

-- what holds anyway holds on success
pub anyway : {A E : Type 0} (result : Result A E) (wanted_now : Type 0) → wanted_now → OnOk result wanted_now
anyway (Ok value) wanted_now holds = holds
anyway (Err error) wanted_now holds = tt

-- a tree's nodes give that tree
pub label_tree-is : (tree : LabelTree) (nodes : List LabelNode) → nodes ≡ postfix tree → tree_of nodes ≡ tree
label_tree-is tree nodes flat = ap tree_of flat ∙ tree_of-postfix tree

-- the nodes of a tree that is not too deep are a label
pub IsLabel-of : (tree : LabelTree) (nodes : List LabelNode) → nodes ≡ postfix tree → label_depth tree ≤ 256 → IsLabelInPostfix nodes
IsLabel-of tree nodes flat shallow =
    let is : tree_of nodes ≡ tree = label_tree-is tree nodes flat in
    record { flat = ap postfix is ∙ sym flat; shallow = omega (arith, ap label_depth is, shallow) }

-- a label that is not too deep and is too large has that fault
pub too-large : (tree : LabelTree) → label_depth tree ≤ 256 → 65536 < label_size tree → fault_of_label tree ≡ Some Expansion
too-large tree shallow large =
    ap (λ deep. cond deep (Some TooDeep) (cond (ltb 65536 (label_size tree)) (Some Expansion) None)) (le-ltb 256 (label_depth tree) shallow)
    ∙ ap (λ over. cond over (Some Expansion) None) (lt-ltb 65536 (label_size tree) large)
