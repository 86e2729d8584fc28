-- `passed_edges`: the edges that both searches met, or none if one of them comes before an index.
use Rattle.std.proofs.Common.{◌≡◌, ◌+◌, ℕ, List, inl, length, sym, ◌∙◌, ap, subst, arith}
use Rattle.omega_graph.specs.private.Classes.{IsGathering, IsPassedBy}
use Rattle.omega_graph.proofs.Classes.{gathering_none, gathering_push, gathering_skip}
use Rattle.omega_graph.proofs.plain.passed_edges.Goals.{else-is_passed, then-is_passed+else-other-index+in_ok-push}
use Rattle.omega_graph.proofs.plain.passed_edges.Goals as goal

pub loop-other-init : goal.loop-other-init
loop-other-init c =
    gathering_none c.args.edges.now.numbers.now (IsPassedBy c.args.edges.now c.args.ahead.now c.args.behind.now) c.args.index c.new-edge_component.result.items c.new-edge_component.ensures.items

pub loop-other-preserved : goal.loop-other-preserved
loop-other-preserved c =
    elim c.if-is_passed.branch [
      | then-is_passed+else-other-index+in_ok-push w ↦
          gathering_push c.args.edges.now.numbers.now (IsPassedBy c.args.edges.now c.args.ahead.now c.args.behind.now) c.args.index c.loop-other.other c.loop-other.edge_component.items c.loop-other.invariant
          c.if-is_passed.edge_component.items (c.is_passed.ensures.0 w.if-is_passed.true) (omega arith) (ap (λ v. v.items) w.edge_component-is ∙ w.in_ok-push.ensures.items)
      | else-is_passed w ↦
          subst (λ (g : List ℕ). IsGathering c.args.edges.now.numbers.now (IsPassedBy c.args.edges.now c.args.ahead.now c.args.behind.now) c.args.index (c.loop-other.other + 1) g) (sym (ap (λ v. v.items) w.edge_component-is))
          (gathering_skip c.args.edges.now.numbers.now (IsPassedBy c.args.edges.now c.args.ahead.now c.args.behind.now) c.args.index c.loop-other.other c.loop-other.edge_component.items c.loop-other.invariant
          (λ passed. absurd (let yes = c.is_passed.ensures.1 passed in let no = w.if-is_passed.false in cc)))
    ]

pub returns : goal.returns
returns c =
    let end : c.loop-other.other ≡ length c.args.edges.now.numbers.now = omega arith in
    inl (subst (λ (n : ℕ). IsGathering c.args.edges.now.numbers.now (IsPassedBy c.args.edges.now c.args.ahead.now c.args.behind.now) c.args.index n c.loop-other.edge_component.items) end c.loop-other.invariant)
