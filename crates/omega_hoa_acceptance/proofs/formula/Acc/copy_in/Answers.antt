-- The nodes of a copy are the formula's.
use Rattle.std.proofs.Common.{arith, ◌∙◌}
use Rattle.omega_hoa_acceptance.proofs.AccLemmas.{IsAcc-of, acc_tree-is}
use Rattle.omega_hoa_acceptance.proofs.formula.Acc.copy_in.Goals as goal

pub of_nodes-requires : goal.of_nodes-requires
of_nodes-requires c =
    IsAcc-of c.args.self.now _ _ (c.in_ok-nodes.ensures.items ∙ c.nodes.ensures) c.depth.ensures.depth
    (omega (arith, c.depth.ensures.depth, c.depth.ensures.limit))

pub returns-clause-ok : goal.returns-clause-ok
returns-clause-ok c = c.of_nodes.ensures ∙ acc_tree-is c.args.self.now _ (c.in_ok-nodes.ensures.items ∙ c.nodes.ensures)
