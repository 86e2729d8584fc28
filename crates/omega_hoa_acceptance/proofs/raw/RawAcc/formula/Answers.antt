-- The nodes without parentheses are a formula that is meant, unless an atom means nothing or it is too deep.
use Rattle.std.proofs.Common.{◌<◌, ◌≤◌, [], ap, arith, subst, sym, ◌∙◌}
use Rattle.omega_hoa_acceptance.specs.Meaning.{IsMeant, IsUnmeant}
use Rattle.omega_hoa_expression.specs.Depth.{counted}
use Rattle.omega_hoa_expression.specs.Limits.{most_depth}
use Rattle.omega_hoa_acceptance.specs.Raw.{raw_acc_depth}
use Rattle.omega_hoa_expression.specs.Depths.{top_depth}
use Rattle.omega_hoa_acceptance.specs.private.layout.Plain.{depths_after}
use Rattle.omega_hoa_expression.proofs.PassingLemmas.{error_then}
use Rattle.omega_hoa_acceptance.proofs.PlainLemmas.{IsAcc-plain, IsMeant-plain, atom-unmeant, too-deep}
use Rattle.omega_hoa_acceptance.proofs.raw.RawAcc.formula.Goals as goal

pub returns-in_err-nodes-clause-err : goal.returns-in_err-nodes-clause-err
returns-in_err-nodes-clause-err c =
    error_then c.from_residual.result _ _ c.from_residual.ensures.1
    (λ e is. subst (IsUnmeant c.args.self.now) (sym is) (atom-unmeant c.args.self.now _ c.in_err-nodes.ensures.err))

pub returns-then-self-gt-MOST_DEPTH-clause-err : goal.returns-then-self-gt-MOST_DEPTH-clause-err
returns-then-self-gt-MOST_DEPTH-clause-err c =
    let seen = ap (λ tree. counted (raw_acc_depth tree)) c.self.view_is in
    let deep : most_depth < raw_acc_depth c.args.self.now = omega (arith, seen, c.self.invariant.depth_is, c.if-self-gt-MOST_DEPTH.true) in
    too-deep c.args.self.now _ c.in_ok-nodes.ensures.ok deep

pub of_nodes-requires : goal.of_nodes-requires
of_nodes-requires c =
    let seen = ap (λ tree. counted (raw_acc_depth tree)) c.self.view_is in
    let shallow : raw_acc_depth c.args.self.now ≤ most_depth = omega (arith, seen, c.self.invariant.depth_is, c.if-self-gt-MOST_DEPTH.false) in
    IsAcc-plain c.args.self.now _ _ c.in_ok-nodes.ensures.ok
    (c.in_ok-depth.ensures.ok ∙ ap (λ all. top_depth (depths_after [] all)) c.as_slice.ensures.value) shallow

pub returns-clause-ok : goal.returns-clause-ok
returns-clause-ok c =
    let seen = ap (λ tree. counted (raw_acc_depth tree)) c.self.view_is in
    let shallow : raw_acc_depth c.args.self.now ≤ most_depth = omega (arith, seen, c.self.invariant.depth_is, c.if-self-gt-MOST_DEPTH.false) in
    subst (IsMeant c.args.self.now) (sym c.of_nodes.ensures) (IsMeant-plain c.args.self.now _ c.in_ok-nodes.ensures.ok shallow)
