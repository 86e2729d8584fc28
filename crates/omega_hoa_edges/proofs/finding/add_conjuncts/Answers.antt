-- The parts are added one after the other.
use Rattle.std.proofs.Common.{◌≡◌, ◌≤◌, ◌+◌, Bor, List, [], ◌∷◌, length, map, drop, get_or, ap, ◌∙◌, subst, rules}
use Rattle.std.proofs.lemmas.List.{drop_all, drop_more}
use Rattle.omega_hoa_label.specs.declared.label.LabelNode.{LabelNode}
use Rattle.omega_hoa_edges.specs.Conjuncts.{conjuncts}
use Rattle.omega_hoa_edges.specs.private.Stacked.{AreAdded}
use Rattle.omega_hoa_edges.proofs.Adding.{added_all, added_next, added_none, added_one}
use Rattle.omega_hoa_edges.proofs.finding.add_conjuncts.Goals as goal

pub loop-part-init : goal.loop-part-init
loop-part-init c =
    let now : Bor (List LabelNode) → List LabelNode = λ part. part.now in
    added_none c.args.found.now.items (conjuncts c.args.label.now) (map now c.as_slice-part-items.result.now)
    (ap (map now) c.as_slice-part-items.ensures.value ∙ c.in_ok-parts.ensures.conjuncts c.args.label.now c.nodes.ensures.nodes)

pub add_once-requires : goal.add_once-requires
add_once-requires c =
    let now : Bor (List LabelNode) → List LabelNode = λ part. part.now in
    let items = c.as_slice-part-items.result.now in
    let i = c.loop-part.part-index in
    let none : Bor (List LabelNode) = record { ref_ptr = (0, 0); now = [] } in
    let next : drop i items ≡ get_or items i none ∷ drop (i + 1) items = drop_more items i none c.loop-part-test.true in
    added_next c.args.found.now.items (conjuncts c.args.label.now) c.loop-part.found.items (get_or items i none).now (map now (drop (i + 1) items))
    (subst (λ (parts : List (Bor (List LabelNode))). AreAdded c.args.found.now.items (conjuncts c.args.label.now) (map now parts) c.loop-part.found.items) next
    c.loop-part.invariant)

pub loop-part-preserved : goal.loop-part-preserved
loop-part-preserved c =
    let now : Bor (List LabelNode) → List LabelNode = λ part. part.now in
    let items = c.as_slice-part-items.result.now in
    let i = c.loop-part.part-index in
    let none : Bor (List LabelNode) = record { ref_ptr = (0, 0); now = [] } in
    let next : drop i items ≡ get_or items i none ∷ drop (i + 1) items = drop_more items i none c.loop-part-test.true in
    added_one c.args.found.now.items (conjuncts c.args.label.now) c.loop-part.found.items c.add_once.new.found.items (get_or items i none).now
    (map now (drop (i + 1) items))
    (subst (λ (parts : List (Bor (List LabelNode))). AreAdded c.args.found.now.items (conjuncts c.args.label.now) (map now parts) c.loop-part.found.items) next
    c.loop-part.invariant) c.in_ok-add_once.ensures.added

pub returns-clause-added : goal.returns-clause-added
returns-clause-added c =
    let now : Bor (List LabelNode) → List LabelNode = λ part. part.now in
    let items = c.as_slice-part-items.result.now in
    let end : length items ≤ c.loop-part.part-index = search rules in
    added_all c.args.found.now.items (conjuncts c.args.label.now) c.loop-part.found.items (map now (drop c.loop-part.part-index items))
    (ap (map now) (drop_all c.loop-part.part-index items end)) c.loop-part.invariant
