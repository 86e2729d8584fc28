-- Two formulas and their operator are a formula, one deeper than the deeper part.
use Rattle.std.proofs.Common.{ap, arith}
use Rattle.omega_hoa_acceptance.specs.Acceptance.{acc_depth, disjunction}
use Rattle.omega_hoa_acceptance.proofs.AccLemmas.{IsAcc-of, acc_nodes-disjunction, acc_nodes-seen, acc_tree-is}
use Rattle.omega_hoa_acceptance.proofs.formula.Acc.or.Goals as goal

pub invariant_of-result : goal.invariant_of-result
invariant_of-result c =
    let one = ap acc_depth c.self.view_is in
    let other = ap acc_depth c.other.view_is in
    IsAcc-of (disjunction c.args.self c.args.other) _ _
    (acc_nodes-disjunction c.args.self c.args.other _ _ _ _
    (acc_nodes-seen _ _ _ c.self.invariant c.self.view_is) (acc_nodes-seen _ _ _ c.other.invariant c.other.view_is)
    c.in_ok-nodes.ensures.ok c.in_ok-with_one.ensures.ok)
    (omega (arith, c.in_ok-depth.ensures.ok.0, c.max.ensures, c.self.invariant.depth_is, c.other.invariant.depth_is))
    c.in_ok-depth.ensures.ok.1

pub returns-clause-ok : goal.returns-clause-ok
returns-clause-ok c =
    acc_tree-is (disjunction c.args.self c.args.other) _
    (acc_nodes-disjunction c.args.self c.args.other _ _ _ _
    (acc_nodes-seen _ _ _ c.self.invariant c.self.view_is) (acc_nodes-seen _ _ _ c.other.invariant c.other.view_is)
    c.in_ok-nodes.ensures.ok c.in_ok-with_one.ensures.ok)
