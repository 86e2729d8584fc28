-- an edge more
use Rattle.std.proofs.Common.{◌-◌, List, get_or, sym, ◌∙◌, arith}
use Rattle.omega_text.specs.declared.refusal.Refusal.{Refusal}
use Rattle.omega_hoa_edges.specs.Fitting.{IsLarge}
use Rattle.omega_hoa_edges.proofs.Refusals.{large_weaker, passed_on}
use Rattle.omega_lang_product.specs.JointEdges.{Joint}
use Rattle.omega_lang_product.specs.private.Labelling.{AreJointsFrom, HasDeepLabel, IsDeep}
use Rattle.omega_lang_product.proofs.Labelled.{joint_here, labelled_more, labelled_none, labelled_whole, listed_here, no_joint}
use Rattle.omega_lang_product.proofs.labelling.edges_between.Goals as goal

pub loop-place-init : goal.loop-place-init
loop-place-init c = (
  omega arith,
  λ joints are. c.new-raw.ensures ∙ sym (labelled_none c.args.edges.now c.args.firsts.now c.args.seconds.now c.args.start c.args.end joints are),
)

pub loop-place-preserved : goal.loop-place-preserved
loop-place-preserved c = (
  omega (arith, c.loop-place.invariant.0),
  λ joints are.
      labelled_more c.args.edges.now c.args.firsts.now c.args.seconds.now c.args.start c.args.end joints are c.loop-place.place c.loop-place.invariant.0 c.loop-place-test.true
      c.loop-place.raw c.push.new.self c.in_ok-edge.edge (c.loop-place.invariant.1 joints are) c.in_ok-push.ensures.ok
      (c.in_ok-edge.ensures.ok (get_or joints (c.loop-place.place - c.args.start) no_joint)
      (joint_here c.args.edges.now c.args.firsts.now c.args.seconds.now c.args.start c.args.end joints are c.loop-place.place c.loop-place.invariant.0 c.loop-place-test.true)),
)

pub labelled_edge-requires : goal.labelled_edge-requires
labelled_edge-requires c =
    let joints : List Joint = c.requires.0 in (
      get_or joints (c.loop-place.place - c.args.start) no_joint,
      joint_here c.args.edges.now c.args.firsts.now c.args.seconds.now c.args.start c.args.end joints c.requires.1 c.loop-place.place c.loop-place.invariant.0 c.loop-place-test.true,
    )

pub returns-in_err-edge-clause-err : goal.returns-in_err-edge-clause-err
returns-in_err-edge-clause-err c =
    passed_on c.from_residual.result
    (λ (refusal : Refusal). (joints : List Joint) → AreJointsFrom c.args.edges.now c.args.firsts.now c.args.seconds.now c.args.start c.args.end joints → IsLarge (HasDeepLabel joints) refusal)
    _ c.from_residual.ensures.1
    (λ joints are.
    (let joint : Joint = get_or joints (c.loop-place.place - c.args.start) no_joint in
    large_weaker (IsDeep joint) (HasDeepLabel joints)
    (λ deep. record {
      joint = joint;
      listed = listed_here c.args.edges.now c.args.firsts.now c.args.seconds.now c.args.start c.args.end joints are c.loop-place.place c.loop-place.invariant.0 c.loop-place-test.true;
      deep = deep;
    })
    _ (c.in_err-edge.ensures.err joint
    (joint_here c.args.edges.now c.args.firsts.now c.args.seconds.now c.args.start c.args.end joints are c.loop-place.place c.loop-place.invariant.0 c.loop-place-test.true))))

pub returns-clause-ok : goal.returns-clause-ok
returns-clause-ok c =
    λ joints are.
    labelled_whole c.args.edges.now c.args.firsts.now c.args.seconds.now c.args.start c.args.end joints are c.loop-place.place c.loop-place.raw c.loop-place-test.false (c.loop-place.invariant.1 joints are)
