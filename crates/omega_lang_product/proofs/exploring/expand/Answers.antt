-- the rows of both states of the pair
use Rattle.std.proofs.Common.{◌≡◌, List, ap₂, subst, sym}
use Rattle.std.specs.Prelude.{IfErr, OnOk}
use Rattle.omega_text.specs.Cases.{never, or_memory, or_task}
use Rattle.omega_lang_product.specs.JointEdges.{joints_between}
use Rattle.omega_lang_product.specs.PairGraph.{joints_at}
use Rattle.omega_lang_product.specs.Pairs.{Pair, first_leaving, first_view, pair_number, second_view, targets_between, with_pairs}
use Rattle.omega_lang_product.specs.private.Adding.{numbered_in}
use Rattle.omega_lang_product.specs.private.Meeting.{HasUnmet, MeetByIndex}
use Rattle.omega_lang_product.specs.declared.plain_edge.PlainEdge.{PlainEdge}
use Rattle.omega_lang_product.proofs.Joints.{found_edges}
use Rattle.omega_lang_product.proofs.exploring.expand.Goals as goal

pub returns-clause-pairs : goal.returns-clause-pairs
returns-clause-pairs c =
    let one = c.args.operands.now.one.now in
    let other = c.args.operands.now.other.now in
    let first = c.row_of-firsts.ensures (first_view one other) one.defined c.requires.tabled.firsts in
    let second = c.row_of-seconds.ensures (second_view one other) other.defined c.requires.tabled.seconds in
    subst (λ (ts : List Pair). OnOk c.add_joints.result (c.add_joints.new.pairs ≡ with_pairs c.args.pairs.now ts))
    (ap₂ targets_between first.edges second.edges) c.add_joints.ensures.pairs

pub returns-clause-err : goal.returns-clause-err
returns-clause-err c =
    let one = c.args.operands.now.one.now in
    let other = c.args.operands.now.other.now in
    let first = c.row_of-firsts.ensures (first_view one other) one.defined c.requires.tabled.firsts in
    let second = c.row_of-seconds.ensures (second_view one other) other.defined c.requires.tabled.seconds in
    subst (λ (us : List PlainEdge). IfErr c.add_joints.result (or_task (HasUnmet (first_leaving one other c.args.pair) us) (or_memory never))) second.edges
    (subst (λ (ts : List PlainEdge). IfErr c.add_joints.result (or_task (HasUnmet ts c.row_of-seconds.result.edges.now) (or_memory never))) first.edges c.add_joints.ensures.err)

pub returns-clause-edges : goal.returns-clause-edges
returns-clause-edges c =
    let one = c.args.operands.now.one.now in
    let other = c.args.operands.now.other.now in
    let first = c.row_of-firsts.ensures (first_view one other) one.defined c.requires.tabled.firsts in
    let second = c.row_of-seconds.ensures (second_view one other) other.defined c.requires.tabled.seconds in
    let firsts = numbered_in c.row_of-firsts.result in
    let seconds = numbered_in c.row_of-seconds.result in
    found_edges c.args.pairs.now c.add_joints.new.pairs (targets_between c.row_of-firsts.result.edges.now c.row_of-seconds.result.edges.now) c.args.pair c.requires.found c.args.from c.requires.numbered
    c.add_joints.result c.add_joints.ensures.pairs
    (λ all n. joints_between all n firsts seconds) (λ all. joints_at one other all c.args.pair)
    (λ all. ap₂ (joints_between all (pair_number all c.args.pair)) first.numbered second.numbered)
    c.args.edges.now c.add_joints.new.edges c.add_joints.ensures.edges

pub add_joints-requires : goal.add_joints-requires
add_joints-requires c =
    let one = c.args.operands.now.one.now in
    let other = c.args.operands.now.other.now in
    let first = c.row_of-firsts.ensures (first_view one other) one.defined c.requires.tabled.firsts in
    let second = c.row_of-seconds.ensures (second_view one other) other.defined c.requires.tabled.seconds in
    λ by_index. subst (λ (ts : List PlainEdge). MeetByIndex ts c.row_of-seconds.result.edges.now) (sym first.edges)
    (subst (MeetByIndex (first_leaving one other c.args.pair)) (sym second.edges) (c.meet_by_index-by_index.ensures by_index))
