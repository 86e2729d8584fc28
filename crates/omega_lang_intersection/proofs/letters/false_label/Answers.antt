-- one node is a label
use Rattle.std.proofs.Common.{false, List, [], ◌∷◌, ◌++◌, ap, arith, ◌∙◌}
use Rattle.std.proofs.lemmas.Result.{IfOk-weaker}
use Rattle.omega_hoa_label.specs.Label.{constant}
use Rattle.omega_hoa_label.specs.declared.label.LabelNode.{LabelNode}
use Rattle.omega_hoa_label.specs.declared.label.LabelNode.TheVariants as node
use Rattle.omega_lang_intersection.proofs.letters.false_label.Goals as goal

pub from_postfix-requires : goal.from_postfix-requires
from_postfix-requires c = record {
  tree = constant false;
  flat = c.in_ok-push.ensures.items ∙ ap (λ (nodes : List LabelNode). nodes ++ node.Constant false ∷ []) c.new-nodes.ensures.items;
  shallow = omega arith;
}

pub returns-clause-label : goal.returns-clause-label
returns-clause-label c =
    IfOk-weaker c.from_postfix.result _ _
    (λ label is. is (constant false) (c.in_ok-push.ensures.items ∙ ap (λ (nodes : List LabelNode). nodes ++ node.Constant false ∷ []) c.new-nodes.ensures.items))
    c.from_postfix.ensures.ok
