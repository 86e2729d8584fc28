-- A label and what stands round it are a label, one deeper.
use Rattle.std.proofs.Common.{◌≤◌, ap, arith, refl, subst, sym, ◌∙◌}
use Rattle.omega_hoa_expression.specs.Limits.{most_depth}
use Rattle.omega_hoa_label.specs.Raw.{raw_depth, group}
use Rattle.omega_hoa_label.specs.private.layout.Raw.{IsRawLabel, raw_tree_of}
use Rattle.omega_hoa_label.proofs.RawLemmas.{AreOf-group, AreOf-seen, IsRawLabel-of, raw_tree-is}
use Rattle.omega_hoa_label.specs.declared.notation.Notation.{Notation}
use Rattle.omega_hoa_label.proofs.raw.RawLabel.group.Goals as goal

pub invariant_of-result : goal.invariant_of-result
invariant_of-result c =
    subst (λ (n : Notation). IsRawLabel n.nodes n.names n.depth) (sym c.in_ok-written.ensures.ok)
    (IsRawLabel-of (group c.args.self) _ _ _
    (AreOf-group c.args.self _ _ _ (AreOf-seen _ _ _ _ c.self.invariant c.self.view_is) refl)
    (omega (arith, c.in_ok-depth.ensures.ok.0, c.in_ok-depth.ensures.ok.1, c.depth.ensures)))

pub returns-clause-ok : goal.returns-clause-ok
returns-clause-ok c =
    ap (λ (n : Notation). raw_tree_of n.nodes n.names) c.in_ok-written.ensures.ok
    ∙ raw_tree-is (group c.args.self) _ _
    (AreOf-group c.args.self _ _ _ (AreOf-seen _ _ _ _ c.self.invariant c.self.view_is) refl)

pub returns-clause-shallow : goal.returns-clause-shallow
returns-clause-shallow c =
    subst (λ tree. raw_depth tree ≤ most_depth) (sym (returns-clause-ok c))
    (omega (arith, c.in_ok-depth.ensures.ok.0, c.in_ok-depth.ensures.ok.1, c.depth.ensures))
