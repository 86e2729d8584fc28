-- A tree's nodes and its depth are a formula.
use Rattle.std.proofs.Common.{◌++◌, ap, arith, ◌∙◌}
use Rattle.omega_hoa_acceptance.specs.Shape.{acc_tree_of_shape}
use Rattle.omega_hoa_acceptance.specs.private.layout.Acceptance.{acc_postfix}
use Rattle.omega_hoa_acceptance.proofs.AccLemmas.{IsAcc-of, acc_tree-is}
use Rattle.omega_hoa_acceptance.proofs.formula.Acc.of_shape.Goals as goal

pub of_nodes-requires : goal.of_nodes-requires
of_nodes-requires c =
    IsAcc-of (acc_tree_of_shape c.args.shape.now) _ _
    (c.in_ok-depth.ensures.nodes ∙ ap (λ nodes. nodes ++ acc_postfix (acc_tree_of_shape c.args.shape.now)) c.new-nodes.ensures.items)
    c.in_ok-depth.ensures.depth (omega (arith, c.in_ok-depth.ensures.shallow))

pub returns-clause-ok : goal.returns-clause-ok
returns-clause-ok c =
    c.of_nodes.ensures ∙ acc_tree-is (acc_tree_of_shape c.args.shape.now) _
    (c.in_ok-depth.ensures.nodes ∙ ap (λ nodes. nodes ++ acc_postfix (acc_tree_of_shape c.args.shape.now)) c.new-nodes.ensures.items)
