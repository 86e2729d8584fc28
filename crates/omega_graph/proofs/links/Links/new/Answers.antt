-- `Links::new`: the links of a list.
use Rattle.std.proofs.Common.{◌<◌, ℕ, [], ◌∷◌, ◌++◌, length, get_or, ◌∙◌, ap, arith, refl}
use Rattle.std.proofs.lemmas.List.{get_or_read}
use Rattle.omega_graph.proofs.Linked.{linked_none, linked_more}
use Rattle.omega_graph.proofs.links.Links.new.Goals as goal

pub loop-index-init : goal.loop-index-init
loop-index-init c =
    linked_none c.args.states.now c.args.count c.in_ok-last.last.items c.in_ok-before.before.items
    (c.in_ok-last.ensures.items_if_clones_equal (λ y e. e)) c.in_ok-before.ensures.items

pub loop-index-preserved : goal.loop-index-preserved
loop-index-preserved c =
    let below : get_or c.args.states.now c.loop-index.index 0 < c.args.count = c.requires c.loop-index.index 0 (omega arith) in
    let within : get_or c.args.states.now c.loop-index.index 0 < length c.loop-index.last.items = omega (arith, c.loop-index.invariant.counted) in
    linked_more c.args.states.now c.args.count c.loop-index.index c.loop-index.last.items c.loop-index.before.items _ c.push.new.self.items c.loop-index.invariant
    below
    (c.in_ok-push.ensures.items ∙ ap (λ (x : ℕ). c.loop-index.before.items ++ x ∷ []) (get_or_read c.loop-index.last.items (get_or c.args.states.now c.loop-index.index 0) c.index.result.now within c.index.ensures 0))
    refl
