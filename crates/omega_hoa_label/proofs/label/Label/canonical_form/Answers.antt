-- The nodes are those of the label as it is written.
use Rattle.std.proofs.Common.{◌≡◌, ◌≤◌, [], List, arith, refl, sym, ◌∙◌}
use Rattle.omega_hoa_expression.specs.Limits.{most_depth}
use Rattle.omega_hoa_label.specs.Label.{LabelTree}
use Rattle.omega_hoa_label.specs.Postfix.{postfix, raw_postfix, AreOf}
use Rattle.omega_hoa_label.specs.Raw.{raw_depth}
use Rattle.omega_hoa_label.specs.Writing.{label_written}
use Rattle.omega_hoa_label.specs.declared.label.LabelNode.{LabelNode}
use Rattle.omega_hoa_label.specs.private.layout.Parts.{nodes_before, parts_after}
use Rattle.omega_hoa_label.specs.private.layout.Raw.{raw_tree_of}
use Rattle.omega_hoa_label.proofs.DepthLemmas.{depth-raw}
use Rattle.omega_hoa_label.proofs.PartLemmas.{names-written, whole-written}
use Rattle.omega_hoa_label.proofs.RawLemmas.{IsRawLabel-of, raw_tree-is}
use Rattle.omega_hoa_label.proofs.ShapeLemmas.{anyway, value_then}
use Rattle.omega_hoa_label.proofs.label.Label.canonical_form.Goals as goal

-- nodes that are made and lent
written-flat : (tree : LabelTree) (all made lent : List LabelNode) → all ≡ postfix tree → made ≡ nodes_before [] (parts_after [] all)
    → lent ≡ made → lent ≡ raw_postfix (label_written tree)
written-flat tree all made lent flat are is = is ∙ (are ∙ whole-written tree all flat)

-- with no names
written-of : (tree : LabelTree) (nodes : List LabelNode) → nodes ≡ raw_postfix (label_written tree) → AreOf (label_written tree) nodes []
written-of tree nodes flat = record { flat = flat; named = sym (names-written tree) }

pub returns-then-depth-gt-MOST_DEPTH-clause-err : goal.returns-then-depth-gt-MOST_DEPTH-clause-err
returns-then-depth-gt-MOST_DEPTH-clause-err c =
    let tree = c.args.self.now in
    let flat = written-flat tree _ _ c.as_slice-nodes.result.now c.nodes.ensures.nodes c.in_ok-grouping.ensures.ok c.as_slice-nodes.ensures in
    (refl, omega (arith, c.if-depth-gt-MOST_DEPTH.true, c.in_ok-depth.ensures.ok, depth-raw (label_written tree) c.as_slice-nodes.result.now flat))

pub of_nodes-requires : goal.of_nodes-requires
of_nodes-requires c =
    let tree = c.args.self.now in
    let flat = written-flat tree _ _ c.as_slice-nodes.result.now c.nodes.ensures.nodes c.in_ok-grouping.ensures.ok c.as_slice-nodes.ensures in
    IsRawLabel-of (label_written tree) _ _ _ (written-of tree _ flat)
    (c.in_ok-depth.ensures.ok ∙ depth-raw (label_written tree) c.as_slice-nodes.result.now flat)

pub returns-clause-ok : goal.returns-clause-ok
returns-clause-ok c =
    let tree = c.args.self.now in
    let flat = written-flat tree _ _ c.as_slice-nodes.result.now c.nodes.ensures.nodes c.in_ok-grouping.ensures.ok c.as_slice-nodes.ensures in
    value_then c.of_nodes.result (λ raw. raw ≡ raw_tree_of c.as_slice-nodes.result.now []) _ c.of_nodes.ensures.ok
    (λ raw is. is ∙ raw_tree-is (label_written tree) _ _ (written-of tree _ flat))

pub returns-clause-shallow : goal.returns-clause-shallow
returns-clause-shallow c =
    let tree = c.args.self.now in
    let flat = written-flat tree _ _ c.as_slice-nodes.result.now c.nodes.ensures.nodes c.in_ok-grouping.ensures.ok c.as_slice-nodes.ensures in
    let shallow : raw_depth (label_written tree) ≤ most_depth =
    omega (arith, c.if-depth-gt-MOST_DEPTH.false, c.in_ok-depth.ensures.ok, depth-raw (label_written tree) c.as_slice-nodes.result.now flat) in
    anyway c.of_nodes.result (raw_depth (label_written tree) ≤ most_depth) shallow
