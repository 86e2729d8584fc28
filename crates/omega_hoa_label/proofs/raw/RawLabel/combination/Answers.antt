-- Two parts and their operator are a whole, one deeper than the deeper part.
use Rattle.std.proofs.Common.{◌≤◌, ap, arith, refl, subst, sym, ◌∙◌}
use Rattle.omega_hoa_expression.specs.Limits.{most_depth}
use Rattle.omega_hoa_label.specs.Raw.{raw_depth}
use Rattle.omega_hoa_label.specs.private.layout.Joining.{joined_by}
use Rattle.omega_hoa_label.specs.private.layout.Raw.{IsRawLabel, raw_tree_of}
use Rattle.omega_hoa_label.proofs.RawLemmas.{AreOf-joined, AreOf-seen, IsRawLabel-of, joined_deep, raw_tree-is}
use Rattle.omega_hoa_label.specs.declared.notation.Notation.{Notation}
use Rattle.omega_hoa_label.proofs.raw.RawLabel.combination.Goals as goal

pub invariant_of-result : goal.invariant_of-result
invariant_of-result c =
    let deep = joined_deep c.args.operator c.args.self c.args.other in
    subst (λ (n : Notation). IsRawLabel n.nodes n.names n.depth) (sym c.in_ok-written.ensures.ok)
    (IsRawLabel-of (joined_by c.args.operator c.args.self c.args.other) _ _ _
    (AreOf-joined c.args.operator c.args.self c.args.other _ _ _ _ _ _ c.requires
    (AreOf-seen _ _ _ _ c.self.invariant c.self.view_is) (AreOf-seen _ _ _ _ c.other.invariant c.other.view_is) refl refl)
    (omega (arith, c.in_ok-depth.ensures.ok.0, c.in_ok-depth.ensures.ok.1, c.max.ensures, c.depth.ensures, c.depth-2.ensures)))

pub returns-clause-ok : goal.returns-clause-ok
returns-clause-ok c =
    ap (λ (n : Notation). raw_tree_of n.nodes n.names) c.in_ok-written.ensures.ok
    ∙ raw_tree-is (joined_by c.args.operator c.args.self c.args.other) _ _
    (AreOf-joined c.args.operator c.args.self c.args.other _ _ _ _ _ _ c.requires
    (AreOf-seen _ _ _ _ c.self.invariant c.self.view_is) (AreOf-seen _ _ _ _ c.other.invariant c.other.view_is) refl refl)

pub returns-clause-shallow : goal.returns-clause-shallow
returns-clause-shallow c =
    let deep = joined_deep c.args.operator c.args.self c.args.other in
    subst (λ tree. raw_depth tree ≤ most_depth) (sym (returns-clause-ok c))
    (omega (arith, c.in_ok-depth.ensures.ok.0, c.in_ok-depth.ensures.ok.1, c.max.ensures, c.depth.ensures, c.depth-2.ensures))
