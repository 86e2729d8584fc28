-- `kept_in`: the edges that stay in a component.
use Rattle.std.proofs.Common.{◌<◌, ◌+◌, length, take, sym, ◌∙◌, ap, subst, arith}
use Rattle.omega_graph.specs.declared.kept.Kept.{Kept}
use Rattle.omega_graph.specs.private.Judging.{AreBelow, IsKept}
use Rattle.omega_graph.proofs.Keeping.{below_more, keeping_push, keeping_skip}
use Rattle.omega_graph.proofs.judging.kept_in.Goals.{else-from-to-2, then-from-to-2+in_ok-keep}
use Rattle.omega_graph.proofs.judging.kept_in.Goals as goal

pub loop-index-preserved : goal.loop-index-preserved
loop-index-preserved c =
    let within : c.loop-index.index < length c.args.edges.now.numbers.now = omega arith in
    let from = c.in-Some.ensures in
    let to = c.in-Some-component_of.ensures in
    elim c.if-from-to-2.branch [
      | then-from-to-2+in_ok-keep w ↦ (
        below_more (length c.args.components.now) c.loop-index.kept.edges.items c.loop-index.kept.leaves.items c.loop-index.kept.enters.items c.loop-index.kept.keys.items _ _ _ _
            c.if-from-to-2.kept.edges.items c.if-from-to-2.kept.leaves.items c.if-from-to-2.kept.enters.items c.if-from-to-2.kept.keys.items
            c.loop-index.invariant.0 from.0 to.0 from.2
            (ap (λ (k : Kept). k.edges.items) w.kept-is ∙ w.in_ok-keep.ensures.edges) (ap (λ (k : Kept). k.leaves.items) w.kept-is ∙ w.in_ok-keep.ensures.leaves)
            (ap (λ (k : Kept). k.enters.items) w.kept-is ∙ w.in_ok-keep.ensures.enters) (ap (λ (k : Kept). k.keys.items) w.kept-is ∙ w.in_ok-keep.ensures.keys),
        λ graph ends.
            keeping_push graph c.args.components.now c.args.edges.now.numbers.now c.args.edges.now.leaves.now c.args.edges.now.enters.now ends c.loop-index.index within c.in-Some.from c.in-Some-component_of.to from.1 to.1
            c.loop-index.kept.edges.items c.loop-index.kept.leaves.items c.loop-index.kept.enters.items c.loop-index.kept.keys.items (c.loop-index.invariant.1 graph ends)
            c.if-from-to-2.kept.edges.items c.if-from-to-2.kept.leaves.items c.if-from-to-2.kept.enters.items c.if-from-to-2.kept.keys.items (omega arith)
            (ap (λ (k : Kept). k.edges.items) w.kept-is ∙ w.in_ok-keep.ensures.edges) (ap (λ (k : Kept). k.leaves.items) w.kept-is ∙ w.in_ok-keep.ensures.leaves)
            (ap (λ (k : Kept). k.enters.items) w.kept-is ∙ w.in_ok-keep.ensures.enters) (ap (λ (k : Kept). k.keys.items) w.kept-is ∙ w.in_ok-keep.ensures.keys),
      )
      | else-from-to-2 w ↦ (
        subst (λ (k : Kept). AreBelow (length c.args.components.now) k.edges.items k.leaves.items k.enters.items k.keys.items) (sym w.kept-is) c.loop-index.invariant.0,
        λ graph ends.
            subst (λ (k : Kept). IsKept graph c.args.components.now (take (c.loop-index.index + 1) c.args.edges.now.numbers.now) k.edges.items k.leaves.items k.enters.items k.keys.items) (sym w.kept-is)
            (keeping_skip graph c.args.components.now c.args.edges.now.numbers.now c.args.edges.now.leaves.now c.args.edges.now.enters.now ends c.loop-index.index within c.in-Some.from c.in-Some-component_of.to from.1 to.1
            c.loop-index.kept.edges.items c.loop-index.kept.leaves.items c.loop-index.kept.enters.items c.loop-index.kept.keys.items (c.loop-index.invariant.1 graph ends) (omega arith) (λ same. absurd (omega arith))),
      )
    ]
