-- The nodes, the names and the depth are those of the written formula.
use Rattle.std.proofs.Common.{[], ap, arith, refl, sym, ◌∙◌}
use Rattle.omega_hoa_expression.specs.Depths.{top_depth}
use Rattle.omega_hoa_acceptance.specs.Writing.{acc_written}
use Rattle.omega_hoa_acceptance.specs.private.layout.Written.{node_names, raw_depths_after}
use Rattle.omega_hoa_acceptance.proofs.RawLemmas.{IsRawAcc-of, raw_acc_tree-is}
use Rattle.omega_hoa_acceptance.proofs.WrittenLemmas.{written-are, written-depth-is}
use Rattle.omega_hoa_acceptance.proofs.formula.Acc.canonical_form.Goals as goal

pub returns-then-depth-gt-MOST_DEPTH-clause-err : goal.returns-then-depth-gt-MOST_DEPTH-clause-err
returns-then-depth-gt-MOST_DEPTH-clause-err c = (
  refl,
  omega (
    arith,
    c.if-depth-gt-MOST_DEPTH.true,
    written-depth-is c.args.self.now _ _ _ c.nodes.ensures c.in_ok-nodes.ensures.ok
        (c.in_ok-depth.ensures.ok ∙ ap (λ nodes. top_depth (raw_depths_after [] nodes)) c.as_slice.ensures.value),
  ),
)

pub of_nodes-requires : goal.of_nodes-requires
of_nodes-requires c =
    IsRawAcc-of (acc_written c.args.self.now) _ _ _
    (written-are c.args.self.now _ _ _ c.nodes.ensures c.in_ok-nodes.ensures.ok (c.in_ok-names.ensures.ok ∙ ap node_names (c.nodes-2.ensures ∙ sym c.nodes.ensures)))
    (written-depth-is c.args.self.now _ _ _ c.nodes.ensures c.in_ok-nodes.ensures.ok
    (c.in_ok-depth.ensures.ok ∙ ap (λ nodes. top_depth (raw_depths_after [] nodes)) c.as_slice.ensures.value))

pub returns-clause-ok : goal.returns-clause-ok
returns-clause-ok c =
    c.of_nodes.ensures
    ∙ raw_acc_tree-is (acc_written c.args.self.now) _ _
    (written-are c.args.self.now _ _ _ c.nodes.ensures c.in_ok-nodes.ensures.ok (c.in_ok-names.ensures.ok ∙ ap node_names (c.nodes-2.ensures ∙ sym c.nodes.ensures)))
