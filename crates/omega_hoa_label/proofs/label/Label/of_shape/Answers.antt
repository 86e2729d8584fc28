-- The nodes of a tree are a label that is neither too deep nor too large.
use Rattle.std.proofs.Common.{◌++◌, length, ap, arith, subst, sym, ◌∙◌}
use Rattle.omega_hoa_label.specs.Shape.{FitsALabel, label_tree_of_shape}
use Rattle.omega_hoa_label.specs.Postfix.{postfix}
use Rattle.omega_hoa_label.proofs.LabelLemmas.{length-postfix}
use Rattle.omega_hoa_label.proofs.ShapeLemmas.{too-large, value_then}
use Rattle.omega_hoa_label.proofs.label.Label.of_shape.Goals as goal

pub returns-then-len-clause-err : goal.returns-then-len-clause-err
returns-then-len-clause-err c =
    let tree = label_tree_of_shape c.args.shape.now in
    let flat = c.in_ok-put_nodes.ensures.nodes ∙ ap (λ nodes. nodes ++ postfix tree) c.new-nodes.ensures.items in
    too-large tree (omega (arith, c.in_ok-put_nodes.ensures.shallow))
    (omega (arith, c.if-len.true, c.len.ensures, ap length flat, length-postfix tree))

pub from_postfix-requires : goal.from_postfix-requires
from_postfix-requires c = record {
  tree = label_tree_of_shape c.args.shape.now;
  flat = c.in_ok-put_nodes.ensures.nodes ∙ ap (λ nodes. nodes ++ postfix (label_tree_of_shape c.args.shape.now)) c.new-nodes.ensures.items;
  shallow = omega (arith, c.in_ok-put_nodes.ensures.shallow);
}

pub returns-clause-ok : goal.returns-clause-ok
returns-clause-ok c =
    let tree = label_tree_of_shape c.args.shape.now in
    let flat = c.in_ok-put_nodes.ensures.nodes ∙ ap (λ nodes. nodes ++ postfix tree) c.new-nodes.ensures.items in
    value_then c.from_postfix.result _ _ c.from_postfix.ensures.ok (λ label is. is tree flat)

pub returns-clause-fits : goal.returns-clause-fits
returns-clause-fits c =
    let tree = label_tree_of_shape c.args.shape.now in
    let flat = c.in_ok-put_nodes.ensures.nodes ∙ ap (λ nodes. nodes ++ postfix tree) c.new-nodes.ensures.items in
    let fits : FitsALabel tree = record {
      shallow = omega (arith, c.in_ok-put_nodes.ensures.shallow);
      small = omega (arith, c.if-len.false, c.len.ensures, ap length flat, length-postfix tree);
    } in
    value_then c.from_postfix.result _ _ c.from_postfix.ensures.ok (λ label is. subst FitsALabel (sym (is tree flat)) fits)
