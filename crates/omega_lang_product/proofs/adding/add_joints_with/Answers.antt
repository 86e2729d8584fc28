-- an edge of the second more, which can be taken together with the one of the first or not
use Rattle.std.proofs.Common.{◌≡◌, ◌+◌, true, false, get_or, List, [], ◌∷◌, sym, subst, ap, ◌∙◌}
use Rattle.std.proofs.lemmas.List.{take_all}
use Rattle.omega_lang_product.specs.JointEdges.{Numbered, joint_of, joints_with, numbered_from}
use Rattle.omega_lang_product.specs.Pairs.{Pair, can_meet, targets_with, with_pairs}
use Rattle.omega_lang_product.specs.private.Adding.{AddsAmong, numbered_edge}
use Rattle.omega_lang_product.specs.declared.plain_edge.PlainEdge.{PlainEdge}
use Rattle.omega_lang_product.proofs.Formulas.{same_default}
use Rattle.omega_lang_product.proofs.Joints.{among_dropped, among_kept, numbered_all, numbered_below, numbered_here}
use Rattle.omega_lang_product.proofs.Reaching.{extends_by}
use Rattle.omega_lang_product.proofs.Steps.{both_of, insert_dropped, insert_kept}
use Rattle.omega_lang_product.proofs.adding.add_joints_with.Goals as goal
use Rattle.omega_lang_product.proofs.adding.add_joints_with.Goals.{then-branch+in_ok-number+in_ok-add_joint, else-branch}

pub loop-at-preserved : goal.loop-at-preserved
loop-at-preserved c =
    let before = c.args.seconds.now.before in
    let ts : List PlainEdge = c.args.seconds.now.edges.now in
    let at = c.loop-at.at in
    let first = numbered_edge c.args.first.now in
    let t : PlainEdge = get_or ts at c.index-seconds-at.result in
    let x : Numbered = record { number = before + at; plain_edge = t } in
    let p = λ (second : Numbered). can_meet first.plain_edge second.plain_edge in
    let f = λ (all : List Pair). joint_of all c.args.from first in
    let target : PlainEdge → Pair = λ second. (first.plain_edge.target, second.target) in
    let here : x ≡ get_or (numbered_from before ts) at x = numbered_here before ts at c.index-seconds-at.result x c.loop-at-test.true in
    let same = same_default ts at c.index-seconds-at.result t c.loop-at-test.true in
    let below = numbered_below before ts at c.loop-at-test.true in
    elim c.if-branch.branch [
      | then-branch+in_ok-number+in_ok-add_joint w ↦
          let passes : p x ≡ true = sym c.in_ok-can_meet.ensures.ok ∙ w.if-branch.true in
          let one = subst (λ n. AddsAmong w.add_joint.new.pairs (λ all. f all (record { number = n; plain_edge = t }) ∷ []) c.loop-at.edges w.add_joint.new.edges)
          w.in_ok-number.ensures.ok w.in_ok-add_joint.ensures.edges in
          let grown = extends_by c.loop-at.pairs w.add_joint.new.pairs (target t ∷ []) w.in_ok-add_joint.ensures.pairs in
          rw (w.edges-is, w.pairs-is) (both_of
          (w.in_ok-add_joint.ensures.pairs
          ∙ insert_kept {X = PlainEdge} ts at t c.loop-at-test.true same c.args.pairs.now c.loop-at.pairs (can_meet first.plain_edge) target passes c.loop-at.invariant.0)
          (among_kept (numbered_from before ts) at x below here c.loop-at.pairs c.args.edges.now c.loop-at.edges p f passes w.add_joint.new.pairs w.add_joint.new.edges grown
          c.loop-at.invariant.1 one))
      | else-branch w ↦
          let fails : p x ≡ false = sym c.in_ok-can_meet.ensures.ok ∙ w.if-branch.false in
          rw (w.edges-is, w.pairs-is) (both_of
          (insert_dropped {X = PlainEdge} ts at t c.loop-at-test.true same c.args.pairs.now c.loop-at.pairs (can_meet first.plain_edge) target fails c.loop-at.invariant.0)
          (among_dropped (numbered_from before ts) at x below here c.loop-at.pairs c.args.edges.now c.loop-at.edges p f fails c.loop-at.invariant.1))
    ]

pub returns-clause-edges : goal.returns-clause-edges
returns-clause-edges c =
    let before = c.args.seconds.now.before in
    let ts : List PlainEdge = c.args.seconds.now.edges.now in
    subst (λ (xs : List Numbered). AddsAmong c.loop-at.pairs (λ all. joints_with all c.args.from (numbered_edge c.args.first.now) xs) c.args.edges.now c.loop-at.edges)
    (numbered_all before ts c.loop-at.at c.loop-at-test.false) c.loop-at.invariant.1

pub returns-clause-pairs : goal.returns-clause-pairs
returns-clause-pairs c =
    c.loop-at.invariant.0
    ∙ ap (λ (xs : List PlainEdge). with_pairs c.args.pairs.now (targets_with c.args.first.now.edge.now xs)) (take_all c.loop-at.at c.args.seconds.now.edges.now c.loop-at-test.false)
