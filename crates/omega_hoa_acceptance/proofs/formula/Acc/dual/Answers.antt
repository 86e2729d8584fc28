-- The nodes of the dual are those of its tree, which is as deep.
use Rattle.std.proofs.Common.{ap, arith, ◌∙◌}
use Rattle.std.specs.Prelude.{map}
use Rattle.omega_hoa_acceptance.specs.Dual.{dual}
use Rattle.omega_hoa_acceptance.specs.private.layout.Rewriting.{dual_node}
use Rattle.omega_hoa_acceptance.proofs.AccLemmas.{IsAcc-of, acc_tree-is}
use Rattle.omega_hoa_acceptance.proofs.RewritingLemmas.{dual-deep, dual-postfix}
use Rattle.omega_hoa_acceptance.proofs.formula.Acc.dual.Goals as goal

pub of_nodes-requires : goal.of_nodes-requires
of_nodes-requires c =
    IsAcc-of (dual c.args.self.now) _ _
    (c.in_ok-nodes.ensures.ok ∙ (ap (map dual_node) c.nodes.ensures ∙ dual-postfix c.args.self.now))
    (omega (arith, c.depth.ensures.depth, dual-deep c.args.self.now)) (omega (arith, c.depth.ensures.depth, c.depth.ensures.limit))

pub returns-clause-ok : goal.returns-clause-ok
returns-clause-ok c =
    c.of_nodes.ensures
    ∙ acc_tree-is (dual c.args.self.now) _
    (c.in_ok-nodes.ensures.ok ∙ (ap (map dual_node) c.nodes.ensures ∙ dual-postfix c.args.self.now))
