-- A formula and what stands round it are a formula, one deeper.
use Rattle.std.proofs.Common.{◌≤◌, ap, arith, subst, sym}
use Rattle.omega_hoa_expression.specs.Depth.{counted}
use Rattle.omega_hoa_expression.specs.Limits.{most_depth}
use Rattle.omega_hoa_acceptance.specs.Raw.{raw_acc_depth, group}
use Rattle.omega_hoa_acceptance.proofs.RawLemmas.{AreOfAcc-group, AreOfAcc-seen, IsRawAcc-of, raw_acc_tree-is}
use Rattle.omega_hoa_acceptance.proofs.raw.RawAcc.group.Goals as goal

pub invariant_of-result : goal.invariant_of-result
invariant_of-result c =
    let one = ap (λ tree. counted (raw_acc_depth tree)) c.self.view_is in
    IsRawAcc-of (group c.args.self) _ _ _
    (AreOfAcc-group c.args.self _ _ _ (AreOfAcc-seen _ _ _ _ c.self.invariant c.self.view_is) c.in_ok-with_one.ensures.ok)
    (omega (arith, c.in_ok-depth.ensures.ok.0, c.in_ok-depth.ensures.ok.1, c.self.invariant.depth_is))

pub returns-clause-ok : goal.returns-clause-ok
returns-clause-ok c =
    raw_acc_tree-is (group c.args.self) _ _
    (AreOfAcc-group c.args.self _ _ _ (AreOfAcc-seen _ _ _ _ c.self.invariant c.self.view_is) c.in_ok-with_one.ensures.ok)

pub returns-clause-shallow : goal.returns-clause-shallow
returns-clause-shallow c =
    let one = ap (λ tree. counted (raw_acc_depth tree)) c.self.view_is in
    subst (λ tree. raw_acc_depth tree ≤ most_depth) (sym (returns-clause-ok c))
    (omega (arith, c.in_ok-depth.ensures.ok.0, c.in_ok-depth.ensures.ok.1, c.self.invariant.depth_is))
