-- Two parts and their operator are a whole, one deeper than the deeper part.
use Rattle.std.proofs.Common.{◌≤◌, ap, arith, subst, sym}
use Rattle.omega_hoa_expression.specs.Depth.{counted}
use Rattle.omega_hoa_expression.specs.Limits.{most_depth}
use Rattle.omega_hoa_acceptance.specs.Raw.{raw_acc_depth}
use Rattle.omega_hoa_acceptance.specs.private.layout.Joining.{joined_by}
use Rattle.omega_hoa_acceptance.proofs.RawLemmas.{AreOfAcc-appended, AreOfAcc-seen, IsRawAcc-of, joined_deep, raw_acc_tree-is}
use Rattle.omega_hoa_acceptance.proofs.raw.RawAcc.combination.Goals as goal

pub invariant_of-result : goal.invariant_of-result
invariant_of-result c =
    let one = ap (λ tree. counted (raw_acc_depth tree)) c.self.view_is in
    let other = ap (λ tree. counted (raw_acc_depth tree)) c.other.view_is in
    let deep = joined_deep c.args.operator c.args.self c.args.other in
    IsRawAcc-of (joined_by c.args.operator c.args.self c.args.other) _ _ _
    (AreOfAcc-appended c.args.operator c.args.self c.args.other _ _ _ _ _ _ _ _ _ _ _ _ c.requires
    (AreOfAcc-seen _ _ _ _ c.self.invariant c.self.view_is) (AreOfAcc-seen _ _ _ _ c.other.invariant c.other.view_is)
    c.into_vec-nodes.ensures c.into_vec-names.ensures c.as_slice.ensures c.as_slice-2.ensures c.in_ok-append.ensures.nodes c.in_ok-append.ensures.names
    c.from_vec.ensures c.from_vec-2.ensures)
    (omega (arith, c.in_ok-depth.ensures.ok.0, c.in_ok-depth.ensures.ok.1, c.max.ensures, c.self.invariant.depth_is, c.other.invariant.depth_is))

pub returns-clause-ok : goal.returns-clause-ok
returns-clause-ok c =
    raw_acc_tree-is (joined_by c.args.operator c.args.self c.args.other) _ _
    (AreOfAcc-appended c.args.operator c.args.self c.args.other _ _ _ _ _ _ _ _ _ _ _ _ c.requires
    (AreOfAcc-seen _ _ _ _ c.self.invariant c.self.view_is) (AreOfAcc-seen _ _ _ _ c.other.invariant c.other.view_is)
    c.into_vec-nodes.ensures c.into_vec-names.ensures c.as_slice.ensures c.as_slice-2.ensures c.in_ok-append.ensures.nodes c.in_ok-append.ensures.names
    c.from_vec.ensures c.from_vec-2.ensures)

pub returns-clause-shallow : goal.returns-clause-shallow
returns-clause-shallow c =
    let one = ap (λ tree. counted (raw_acc_depth tree)) c.self.view_is in
    let other = ap (λ tree. counted (raw_acc_depth tree)) c.other.view_is in
    let deep = joined_deep c.args.operator c.args.self c.args.other in
    subst (λ tree. raw_acc_depth tree ≤ most_depth) (sym (returns-clause-ok c))
    (omega (arith, c.in_ok-depth.ensures.ok.0, c.in_ok-depth.ensures.ok.1, c.max.ensures, c.self.invariant.depth_is, c.other.invariant.depth_is))
