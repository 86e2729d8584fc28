-- the joint edges of the rows of both states
use Rattle.std.proofs.Common.{◌≡◌, get_or, map, ap, sym, subst, ◌∙◌}
use Rattle.std.proofs.lemmas.Result.{IfErr-weaker, IfOk-weaker}
use Rattle.omega_hoa_edges.proofs.Refusals.{large_weaker}
use Rattle.omega_lang_product.specs.PairGraph.{joints_at}
use Rattle.omega_lang_product.specs.Pairs.{Pair, first_view, second_view}
use Rattle.omega_lang_product.specs.Refusing.{HasDeepMeeting}
use Rattle.omega_lang_product.specs.Written.{raw_edge}
use Rattle.omega_lang_product.specs.private.Labelling.{HasDeepLabel}
use Rattle.omega_lang_product.specs.private.Tables.{HasRow}
use Rattle.omega_lang_product.proofs.Formulas.{same_default}
use Rattle.omega_lang_product.proofs.Labelled.{deep_meeting_of, edges_labelled, joints_leaving}
use Rattle.omega_lang_product.proofs.labelling.edges_leaving.Goals as goal

pub row_of-firsts-requires : goal.row_of-firsts-requires
row_of-firsts-requires c =
    let pairs = c.args.explored.now.pairs.keys in
    let here : c.pair_at-pair.result ≡ get_or pairs c.args.at (0, 0) = c.pair_at-pair.ensures.pair ∙ same_default pairs c.args.at c.pair_at-pair.result (0, 0) c.requires.below in
    subst (λ (pair : Pair). HasRow c.args.operands.now.tables.now.firsts pair.0) (sym here) (c.requires.made c.args.at c.requires.below).first

pub row_of-seconds-requires : goal.row_of-seconds-requires
row_of-seconds-requires c =
    let pairs = c.args.explored.now.pairs.keys in
    let here : c.pair_at-pair.result ≡ get_or pairs c.args.at (0, 0) = c.pair_at-pair.ensures.pair ∙ same_default pairs c.args.at c.pair_at-pair.result (0, 0) c.requires.below in
    subst (λ (pair : Pair). HasRow c.args.operands.now.tables.now.seconds pair.1) (sym here) (c.requires.made c.args.at c.requires.below).second

pub edges_between-requires : goal.edges_between-requires
edges_between-requires c =
    let one = c.args.operands.now.one.now in
    let other = c.args.operands.now.other.now in
    let explored = c.args.explored.now in
    let pairs = explored.pairs.keys in
    let here : c.pair_at-pair.result ≡ get_or pairs c.args.at (0, 0) = c.pair_at-pair.ensures.pair ∙ same_default pairs c.args.at c.pair_at-pair.result (0, 0) c.requires.below in
    let first = c.row_of-firsts.ensures (first_view one other) one.defined c.requires.tabled.firsts in
    let second = c.row_of-seconds.ensures (second_view one other) other.defined c.requires.tabled.seconds in (
      joints_at one other pairs (get_or pairs c.args.at (0, 0)),
      joints_leaving one other pairs c.args.at c.requires.below explored.edges c.requires.explored.edges c.row_of-firsts.result c.row_of-seconds.result c.pair_at-pair.result here
          first.numbered second.numbered explored.past.items c.requires.explored.past c.past_before-start.result c.past_before-end.result c.past_before-start.ensures c.past_before-end.ensures,
    )

pub returns-clause-ok : goal.returns-clause-ok
returns-clause-ok c =
    let one = c.args.operands.now.one.now in
    let other = c.args.operands.now.other.now in
    let explored = c.args.explored.now in
    let pairs = explored.pairs.keys in
    let here : c.pair_at-pair.result ≡ get_or pairs c.args.at (0, 0) = c.pair_at-pair.ensures.pair ∙ same_default pairs c.args.at c.pair_at-pair.result (0, 0) c.requires.below in
    let first = c.row_of-firsts.ensures (first_view one other) one.defined c.requires.tabled.firsts in
    let second = c.row_of-seconds.ensures (second_view one other) other.defined c.requires.tabled.seconds in
    let are = joints_leaving one other pairs c.args.at c.requires.below explored.edges c.requires.explored.edges c.row_of-firsts.result c.row_of-seconds.result c.pair_at-pair.result here
    first.numbered second.numbered explored.past.items c.requires.explored.past c.past_before-start.result c.past_before-end.result c.past_before-start.ensures c.past_before-end.ensures in
    IfOk-weaker c.edges_between.result _ _
    (λ raw is. is (joints_at one other pairs (get_or pairs c.args.at (0, 0))) are
    ∙ ap (map raw_edge) (sym (edges_labelled one other pairs c.args.at c.requires.below explored.edges c.requires.explored.edges c.row_of-firsts.result c.row_of-seconds.result)))
    c.edges_between.ensures.ok

pub returns-clause-err : goal.returns-clause-err
returns-clause-err c =
    let one = c.args.operands.now.one.now in
    let other = c.args.operands.now.other.now in
    let explored = c.args.explored.now in
    let pairs = explored.pairs.keys in
    let here : c.pair_at-pair.result ≡ get_or pairs c.args.at (0, 0) = c.pair_at-pair.ensures.pair ∙ same_default pairs c.args.at c.pair_at-pair.result (0, 0) c.requires.below in
    let first = c.row_of-firsts.ensures (first_view one other) one.defined c.requires.tabled.firsts in
    let second = c.row_of-seconds.ensures (second_view one other) other.defined c.requires.tabled.seconds in
    let are = joints_leaving one other pairs c.args.at c.requires.below explored.edges c.requires.explored.edges c.row_of-firsts.result c.row_of-seconds.result c.pair_at-pair.result here
    first.numbered second.numbered explored.past.items c.requires.explored.past c.past_before-start.result c.past_before-end.result c.past_before-start.ensures c.past_before-end.ensures in
    IfErr-weaker c.edges_between.result _ _
    (λ refusal h. large_weaker (HasDeepLabel (joints_at one other pairs (get_or pairs c.args.at (0, 0)))) (HasDeepMeeting one other)
    (deep_meeting_of one other pairs c.args.at c.requires.below explored.edges c.requires.explored.edges c.row_of-firsts.result c.row_of-seconds.result c.requires.explored.reachable)
    refusal (h (joints_at one other pairs (get_or pairs c.args.at (0, 0))) are))
    c.edges_between.ensures.err
