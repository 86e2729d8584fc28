-- Each node leaves its extent, and at the end the extent alone is left.
use Rattle.std.proofs.Common.{[], ap, option_map, refl, sym, ◌∙◌, arith}
use Rattle.std.proofs.lemmas.List.{at_drop_all}
use Rattle.omega_hoa_label_text.specs.Expanding.{entries_of}
use Rattle.omega_hoa_label_text.specs.private.Extents.{both_extents, deeper_extent, extent_named, extents_after, extents_below, negated_extent, top_extent}
use Rattle.omega_hoa_label_text.proofs.ExtentLemmas.{extents-atom, extents-joined, extents-next, extents_after-label, pushed-is}
use Rattle.omega_hoa_label_text.proofs.aliases.Aliases.measure_nodes.Goals as goal
use Rattle.omega_hoa_label_text.proofs.aliases.Aliases.measure_nodes.Goals.{in-Alias, in-Not, in-Group, in-And, in-Constant}

pub loop-node-preserved : goal.loop-node-preserved
loop-node-preserved c =
    let named = extent_named (entries_of [] c.args.self.now) in
    elim c.match-node.branch [
      | in-Alias w ↦ extents-next named _ _ _ _ _ _ c.nodes-nodes.result.now _ _ _ _ c.loop-node-test.true w.in-Alias.is refl c.loop-node.invariant
          (pushed-is _ _ _ _ _ c.in_ok-push.ensures.ok (w.extent-is ∙ (w.in_parentheses-extent.ensures ∙ ap (option_map deeper_extent) (w.extent-extent.ensures ∙ ap named w.first_bytes.ensures))) w.stack-is)
          (ap (λ n. n.now) w.names-is ∙ w.bytes_after-names.ensures)
      | in-Not w ↦ extents-next named _ _ _ _ _ _ c.nodes-nodes.result.now _ _ _ _ c.loop-node-test.true w.in-Not.is refl c.loop-node.invariant
          (pushed-is _ _ _ _ _ c.in_ok-push.ensures.ok (w.extent-is ∙ (w.extent_after_not-extent.ensures ∙ ap (option_map negated_extent) w.pop.ensures.extent)) (w.stack-is ∙ w.pop.ensures.rest))
          (ap (λ n. n.now) w.names-is)
      | in-Group w ↦ extents-next named _ _ _ _ _ _ c.nodes-nodes.result.now _ _ _ _ c.loop-node-test.true w.in-Group.is refl c.loop-node.invariant
          (pushed-is _ _ _ _ _ c.in_ok-push.ensures.ok (w.extent-is ∙ (w.in_parentheses-extent-in-Group.ensures ∙ ap (option_map deeper_extent) w.pop-in-Group.ensures.extent)) (w.stack-is ∙ w.pop-in-Group.ensures.rest))
          (ap (λ n. n.now) w.names-is)
      | in-And w ↦ extents-next named _ _ _ _ _ _ c.nodes-nodes.result.now _ _ _ _ c.loop-node-test.true refl (extents-joined named _ _ _ _ w.in-And.is) c.loop-node.invariant
          (pushed-is _ _ _ _ _ c.in_ok-push.ensures.ok
          (w.extent-is
          ∙ (w.extent_of_operands-extent.ensures
          ∙ (ap (λ left. both_extents left w.pop-right.result) (w.pop-in-And.ensures.extent ∙ ap top_extent w.pop-right.ensures.rest)
          ∙ ap (λ right. both_extents (top_extent (extents_below c.loop-node.stack)) right) w.pop-right.ensures.extent)))
          (w.stack-is ∙ (w.pop-in-And.ensures.rest ∙ ap extents_below w.pop-right.ensures.rest)))
          (ap (λ n. n.now) w.names-is)
      | in-Constant w ↦ extents-next named _ _ _ _ _ _ c.nodes-nodes.result.now _ _ _ _ c.loop-node-test.true refl (extents-atom named _ _ _ _ w.in-Constant.is) c.loop-node.invariant
          (pushed-is _ _ _ _ _ c.in_ok-push.ensures.ok (w.extent-is ∙ w.atom-extent.ensures) w.stack-is)
          (ap (λ n. n.now) w.names-is)
    ]

pub returns-clause-ok : goal.returns-clause-ok
returns-clause-ok c =
    c.pop-2.ensures.extent
    ∙ ap top_extent
    (sym (at_drop_all (extents_after (extent_named (entries_of [] c.args.self.now)) c.loop-node.stack c.loop-node.names.now) c.nodes-nodes.result.now c.loop-node.node-index (omega (arith, c.loop-node-test.false)))
    ∙ (c.loop-node.invariant ∙ extents_after-label (entries_of [] c.args.self.now) c.args.raw.now))
