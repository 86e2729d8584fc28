-- an edge of the first more
use Rattle.std.proofs.Common.{◌≡◌, ◌+◌, ◌++◌, get_or, List, map, subst, ap, ◌∙◌}
use Rattle.std.proofs.lemmas.List.{take_all}
use Rattle.omega_lang_product.specs.JointEdges.{Numbered, joint_of, joints_between, joints_with, numbered_from}
use Rattle.omega_lang_product.specs.Pairs.{Pair, targets_between, targets_with, with_pairs}
use Rattle.omega_lang_product.specs.private.Adding.{Adds, AddsAmong, numbered_in}
use Rattle.omega_lang_product.specs.declared.plain_edge.PlainEdge.{PlainEdge}
use Rattle.omega_lang_product.proofs.Formulas.{same_default}
use Rattle.omega_lang_product.proofs.Joints.{among_flat, numbered_all, numbered_below, numbered_here}
use Rattle.omega_lang_product.proofs.Reaching.{extends_by}
use Rattle.omega_lang_product.proofs.Steps.{insert_flat}
use Rattle.omega_lang_product.proofs.adding.add_joints.Goals as goal

pub loop-at-preserved : goal.loop-at-preserved
loop-at-preserved c =
    let before = c.args.firsts.now.before in
    let ts : List PlainEdge = c.args.firsts.now.edges.now in
    let at = c.loop-at.at in
    let seconds = numbered_in c.args.seconds.now in
    let t : PlainEdge = get_or ts at c.index-firsts-at.result in
    let x : Numbered = record { number = before + at; plain_edge = t } in
    let f = λ (all : List Pair) (first : Numbered). joints_with all c.args.from first seconds in
    let first : Numbered = record { number = c.in_ok-number.number; plain_edge = t } in
    let here : x ≡ get_or (numbered_from before ts) at x = numbered_here before ts at c.index-firsts-at.result x c.loop-at-test.true in
    let below = numbered_below before ts at c.loop-at-test.true in
    let has = c.in_ok-partners.ensures.partners in
    let row : List PlainEdge = c.in_ok-partners.partners.edges.now in
    let targets : targets_with t row ≡ targets_with t c.args.seconds.now.edges.now =
    ap (map (λ (second : PlainEdge). (t.target, second.target))) has.plain_edges in
    let more = subst (λ n. AddsAmong c.add_joints_with.new.pairs (λ all. f all (record { number = n; plain_edge = t })) c.loop-at.edges c.add_joints_with.new.edges)
    c.in_ok-number.ensures.ok
    (λ later. subst (λ (seconds : List Numbered). Adds (map (joint_of (c.add_joints_with.new.pairs ++ later) c.args.from first) seconds) c.loop-at.edges c.add_joints_with.new.edges)
    has.numbered (c.in_ok-add_joints_with.ensures.edges later)) in
    let found = c.in_ok-add_joints_with.ensures.pairs ∙ ap (with_pairs c.loop-at.pairs) targets in
    let grown = extends_by c.loop-at.pairs c.add_joints_with.new.pairs (targets_with t c.args.seconds.now.edges.now) found in (
      found
          ∙ insert_flat {X = PlainEdge} ts at t c.loop-at-test.true (same_default ts at c.index-firsts-at.result t c.loop-at-test.true) c.args.pairs.now c.loop-at.pairs
          (λ (first : PlainEdge). targets_with first c.args.seconds.now.edges.now) c.loop-at.invariant.0,
      among_flat (numbered_from before ts) at x below here c.loop-at.pairs c.args.edges.now c.loop-at.edges f c.add_joints_with.new.pairs c.add_joints_with.new.edges grown
          c.loop-at.invariant.1 more,
    )

pub returns-clause-edges : goal.returns-clause-edges
returns-clause-edges c =
    let before = c.args.firsts.now.before in
    let ts : List PlainEdge = c.args.firsts.now.edges.now in
    subst (λ (xs : List Numbered). AddsAmong c.loop-at.pairs (λ all. joints_between all c.args.from xs (numbered_in c.args.seconds.now)) c.args.edges.now c.loop-at.edges)
    (numbered_all before ts c.loop-at.at c.loop-at-test.false) c.loop-at.invariant.1

pub returns-clause-pairs : goal.returns-clause-pairs
returns-clause-pairs c =
    let ts : List PlainEdge = c.args.firsts.now.edges.now in
    c.loop-at.invariant.0
    ∙ ap (λ (xs : List PlainEdge). with_pairs c.args.pairs.now (targets_between xs c.args.seconds.now.edges.now)) (take_all c.loop-at.at ts c.loop-at-test.false)
