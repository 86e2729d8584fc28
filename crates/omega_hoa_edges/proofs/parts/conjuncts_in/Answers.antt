-- The conjuncts of the label are found from the last to the first, and then turned.
use Rattle.std.proofs.Common.{◌≡◌, ◌<◌, Bor, List, [], ◌∷◌, ◌++◌, length, map, sym, ap, ◌∙◌, subst, arith, rules}
use Rattle.std.proofs.lemmas.List.{map-append}
use Rattle.omega_hoa_label.specs.declared.label.LabelNode.{LabelNode}
use Rattle.omega_hoa_edges.specs.private.Stacked.{AreFound}
use Rattle.omega_hoa_edges.proofs.Found.{found_all, found_last, found_none, found_opened, map_reverse}
use Rattle.omega_hoa_edges.proofs.parts.conjuncts_in.Goals as goal

pub loop-left-init : goal.loop-left-init
loop-left-init c =
    subst (λ (parts : List (Bor (List LabelNode))). AreFound c.args.nodes.now c.args.nodes.now (map (λ (part : Bor (List LabelNode)). part.now) parts))
    (sym c.new-parts.ensures.items) (found_none c.args.nodes.now)

pub loop-left-preserved-in-Some : goal.loop-left-preserved-in-Some
loop-left-preserved-in-Some c =
    found_opened c.args.nodes.now c.loop-left.left.now c.in-Some.within.now (map (λ (part : Bor (List LabelNode)). part.now) c.loop-left.parts.items)
    (omega (arith, c.in-Some.ensures.shorter)) c.in-Some.ensures.opened c.loop-left.invariant

pub loop-left-preserved : goal.loop-left-preserved
loop-left-preserved c =
    let now : Bor (List LabelNode) → List LabelNode = λ part. part.now in
    let more : map now c.loop-left.parts.items ++ c.split_at.result.1.now ∷ [] ≡ map now c.push.new.self.items =
    sym (ap (map now) c.in_ok-push-in-None.ensures.items ∙ map-append now c.loop-left.parts.items (c.split_at.result.1 ∷ [])) in
    let some : 0 < length c.loop-left.left.now = search rules in
    subst (λ (parts : List (List LabelNode)). AreFound c.args.nodes.now c.split_at.result.0.now parts) more
    (found_last c.args.nodes.now c.loop-left.left.now c.split_at.result.0.now c.split_at.result.1.now (map now c.loop-left.parts.items) c.last_length.result
    some c.in-None.ensures.conjunct c.last_length.ensures.length c.split_at.ensures.front c.split_at.ensures.back c.loop-left.invariant)

pub returns-clause-conjuncts : goal.returns-clause-conjuncts
returns-clause-conjuncts c =
    let now : Bor (List LabelNode) → List LabelNode = λ part. part.now in
    let none : length c.loop-left.left.now ≡ 0 = search rules in
    λ label is.
    ap (map now) c.reverse.ensures.items
    ∙ (map_reverse now c.loop-left.parts.items
    ∙ found_all c.args.nodes.now c.loop-left.left.now (map now c.loop-left.parts.items) none c.loop-left.invariant label is)
