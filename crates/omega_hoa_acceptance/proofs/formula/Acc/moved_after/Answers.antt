-- The nodes with other numbers are those of the tree with other numbers, which is as deep.
use Rattle.std.proofs.Common.{ap, arith, ◌∙◌}
use Rattle.std.specs.Prelude.{map}
use Rattle.omega_hoa_acceptance.specs.Moving.{moved_after}
use Rattle.omega_hoa_acceptance.specs.private.layout.Rewriting.{moved_node}
use Rattle.omega_hoa_acceptance.proofs.AccLemmas.{IsAcc-of, acc_tree-is}
use Rattle.omega_hoa_acceptance.proofs.RewritingLemmas.{moved-deep, moved-postfix}
use Rattle.omega_hoa_acceptance.proofs.formula.Acc.moved_after.Goals as goal

pub of_nodes-requires : goal.of_nodes-requires
of_nodes-requires c =
    IsAcc-of (moved_after c.args.before c.args.self.now) _ _
    (c.in_ok-nodes.ensures.ok ∙ (ap (map (moved_node c.args.before)) c.nodes.ensures ∙ moved-postfix c.args.before c.args.self.now))
    (omega (arith, c.depth.ensures.depth, moved-deep c.args.before c.args.self.now)) (omega (arith, c.depth.ensures.depth, c.depth.ensures.limit))

pub returns-clause-ok : goal.returns-clause-ok
returns-clause-ok c =
    c.of_nodes.ensures
    ∙ acc_tree-is (moved_after c.args.before c.args.self.now) _
    (c.in_ok-nodes.ensures.ok ∙ (ap (map (moved_node c.args.before)) c.nodes.ensures ∙ moved-postfix c.args.before c.args.self.now))
