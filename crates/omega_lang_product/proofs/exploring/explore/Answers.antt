-- a pair more is expanded, or too many pairs or edges are found
use Rattle.std.proofs.Common.{◌≡◌, ◌<◌, ◌≤◌, List, [], length, ap₂, ◌∙◌, arith}
use Rattle.omega_hoa_edges.specs.Limits.{most_edges, most_states}
use Rattle.omega_lang_product.specs.Pairs.{Pair, starts_between, targets_of, with_pairs}
use Rattle.omega_lang_product.specs.Refusing.{HasUnfitAt, many_edges, many_pairs}
use Rattle.omega_lang_product.proofs.Finding.{counted_all, edges_all, found_more, found_none, long_all, many_now, reached_all, reached_more}
use Rattle.omega_lang_product.proofs.Reaching.{done_with, extends_by}
use Rattle.omega_hoa_edges.proofs.Refusals.{passed_on}
use Rattle.omega_lang_product.proofs.Refused.{large_in_graph}
use Rattle.omega_lang_product.proofs.Unmet.{join_refused, listed_at, unfit_pair}
use Rattle.omega_lang_product.proofs.exploring.explore.Goals as goal

pub loop-at-init : goal.loop-at-init
loop-at-init c =
    let none : c.in_ok-pairs.pairs ≡ [] = c.in_ok-pairs.ensures.empty in (
      found_none c.args.one.now c.args.other.now c.add_starts.new.found c.new-edges.result c.new-past.result.items
          (c.in_ok-add_starts.ensures.ok ∙ ap₂ (λ (ks ps : List Pair). with_pairs ks ps) none (ap₂ starts_between c.starts.ensures c.starts-2.ensures)) c.new-edges.ensures c.new-past.ensures.items,
      c.requires,
      λ k below. absurd (omega (arith, below)),
    )

pub loop-at-preserved : goal.loop-at-preserved
loop-at-preserved c =
    let one = c.args.one.now in
    let other = c.args.other.now in
    let below : c.loop-at.at < length c.loop-at.pairs = omega (arith, c.loop-at-test.true, c.len.ensures.len) in
    let few : length c.loop-at.pairs ≤ most_states = omega (arith, c.if-len-gt-MOST_STATES.false, c.len-in-loop-at.ensures.len) in
    let light : length c.expand.new.edges.ends.items ≤ most_edges = omega (arith, c.if-len-gt-MOST_EDGES.false, c.len-in-loop-at-2.ensures) in
    let count : c.len-in-loop-at-3.result ≡ length c.expand.new.edges.ends.items = omega (arith, c.len-in-loop-at-3.ensures) in
    let extended = extends_by c.loop-at.pairs c.expand.new.pairs (targets_of one other c.at-pair.result) c.in_ok-expand.ensures.pairs in (
      found_more one other c.loop-at.pairs c.expand.new.pairs c.loop-at.edges c.expand.new.edges c.loop-at.past.items c.loop-at.at c.at-pair.result c.loop-at.invariant.0
          below c.at-pair.ensures.pair few c.in_ok-expand.ensures.pairs c.in_ok-expand.ensures.edges
          c.len-in-loop-at-3.result c.push.new.self.items count light c.in_ok-push.ensures.items,
      c.in_ok-reach.ensures.ok.tables,
      reached_more one other c.loop-at.pairs c.expand.new.pairs c.loop-at.tables c.reach.new.self c.loop-at.at c.at-pair.result extended below c.at-pair.ensures.pair
          c.loop-at.invariant.2 c.in_ok-reach.ensures.ok,
    )

pub reach-requires : goal.reach-requires
reach-requires c = c.loop-at.invariant.1

pub returns-in_err-reach-clause-err : goal.returns-in_err-reach-clause-err
returns-in_err-reach-clause-err c =
    let one = c.args.one.now in
    let other = c.args.other.now in
    let below : c.loop-at.at < length c.loop-at.pairs = omega (arith, c.loop-at-test.true, c.len.ensures.len) in
    passed_on c.from_residual-in_err-reach.result _ _ c.from_residual-in_err-reach.ensures.1
    (large_in_graph one other (HasUnfitAt one other c.at-pair.result)
    (unfit_pair one other c.at-pair.result (c.loop-at.invariant.0.way.reachable.each c.at-pair.result
    (listed_at {X = Pair} c.loop-at.pairs c.loop-at.at c.at-pair.result below c.at-pair.ensures.pair)))
    _ c.in_err-reach.ensures.err)

pub returns-in_err-expand-clause-err : goal.returns-in_err-expand-clause-err
returns-in_err-expand-clause-err c =
    let one = c.args.one.now in
    let other = c.args.other.now in
    let below : c.loop-at.at < length c.loop-at.pairs = omega (arith, c.loop-at-test.true, c.len.ensures.len) in
    passed_on c.from_residual-in_err-expand.result _ _ c.from_residual-in_err-expand.ensures.1
    (join_refused one other c.at-pair.result (c.loop-at.invariant.0.way.reachable.each c.at-pair.result
    (listed_at {X = Pair} c.loop-at.pairs c.loop-at.at c.at-pair.result below c.at-pair.ensures.pair)) _ c.in_err-expand.ensures.err)

pub returns-then-len-gt-MOST_STATES-clause-err : goal.returns-then-len-gt-MOST_STATES-clause-err
returns-then-len-gt-MOST_STATES-clause-err c =
    many_pairs (record {
      pairs = c.loop-at.pairs;
      reachable = c.loop-at.invariant.0.way.reachable;
      many = omega (arith, c.if-len-gt-MOST_STATES.true, c.len-in-loop-at.ensures.len);
    })

pub returns-then-len-gt-MOST_EDGES-clause-err : goal.returns-then-len-gt-MOST_EDGES-clause-err
returns-then-len-gt-MOST_EDGES-clause-err c =
    let one = c.args.one.now in
    let other = c.args.other.now in
    let below : c.loop-at.at < length c.loop-at.pairs = omega (arith, c.loop-at-test.true, c.len.ensures.len) in
    let few : length c.loop-at.pairs ≤ most_states = omega (arith, c.if-len-gt-MOST_STATES.false, c.len-in-loop-at.ensures.len) in
    let many : most_edges < length c.expand.new.edges.ends.items = omega (arith, c.if-len-gt-MOST_EDGES.true, c.len-in-loop-at-2.ensures) in
    many_edges (many_now one other c.loop-at.pairs c.expand.new.pairs c.loop-at.edges c.expand.new.edges c.loop-at.past.items c.loop-at.at c.at-pair.result c.loop-at.invariant.0
    below c.at-pair.ensures.pair few c.in_ok-expand.ensures.pairs c.in_ok-expand.ensures.edges many)

pub returns-clause-explored : goal.returns-clause-explored
returns-clause-explored c =
    let one = c.args.one.now in
    let other = c.args.other.now in
    let all : length c.loop-at.pairs ≤ c.loop-at.at = omega (arith, c.loop-at-test.false, c.len.ensures.len) in
    rw (c.into_set.ensures) (record {
      reached = done_with one other c.loop-at.pairs c.loop-at.at c.loop-at.invariant.0.way all;
      reachable = c.loop-at.invariant.0.way.reachable;
      few = omega (arith, all, c.loop-at.invariant.0.way.few);
      edges = edges_all one other c.loop-at.pairs c.loop-at.edges c.loop-at.past.items c.loop-at.at c.loop-at.invariant.0 all;
      light = c.loop-at.invariant.0.light;
      long = long_all one other c.loop-at.pairs c.loop-at.edges c.loop-at.past.items c.loop-at.at c.loop-at.invariant.0 all;
      past = counted_all one other c.loop-at.pairs c.loop-at.edges c.loop-at.past.items c.loop-at.at c.loop-at.invariant.0 all;
    })

pub returns-clause-made : goal.returns-clause-made
returns-clause-made c =
    rw (c.into_set.ensures) (reached_all c.loop-at.pairs c.loop-at.tables c.loop-at.at (omega (arith, c.loop-at-test.false, c.len.ensures.len)) c.loop-at.invariant.2)
