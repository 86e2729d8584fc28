-- `search_to`: meets states that are reached from some states, until it met a target.
use Rattle.std.proofs.Common.{ℕ, ◌<◌, List, length, sym, ◌∙◌, subst, arith, rules}
use Rattle.std.proofs.lemmas.Grind.{common_steps}
use Rattle.omega_graph.specs.private.Searching.{AreFollowed, Grows, IsStep, met_at}
use Rattle.omega_graph.proofs.Searched.{searching_begins, searching_ends, searching_more}
use Rattle.omega_graph.proofs.searching.search_to.Goals as goal

pub loop-index-init : goal.loop-index-init
loop-index-init c =
    searching_begins c.args.leaves.now c.args.enters.now c.args.sources.now c.args.count c.in_ok-search.search c.begin.new.self c.in_ok-search.ensures.marks c.in_ok-search.ensures.met
    c.in_ok-begin.ensures.grows c.in_ok-begin.ensures.met

pub loop-index-preserved : goal.loop-index-preserved
loop-index-preserved c =
    let inside : c.loop-index.index < length c.loop-index.search.met = search rules in
    searching_more c.args.leaves.now c.args.enters.now c.args.sources.now c.args.count c.loop-index.search c.follow.new.self c.loop-index.index c.loop-index.invariant inside
    (subst (λ (states : List ℕ). Grows (IsStep states c.args.enters.now (met_at c.loop-index.search.met c.loop-index.index).state c.loop-index.index) c.loop-index.search c.follow.new.self)
    c.in_ok-links.ensures.states c.in_ok-follow.ensures.grows)
    (subst (λ (states : List ℕ). AreFollowed states c.args.enters.now (met_at c.loop-index.search.met c.loop-index.index).state c.follow.new.self.marks)
    c.in_ok-links.ensures.states c.in_ok-follow.ensures.followed)

pub returns-then-has_met : goal.returns-then-has_met
returns-then-has_met c = record {
  tree = c.loop-index.invariant.tree;
  found = c.loop-index.invariant.found;
  whole = λ none. absurd (none (sym c.has_met.ensures ∙ c.if-has_met.true));
}

pub returns : goal.returns
returns c = record {
  tree = c.loop-index.invariant.tree;
  found = c.loop-index.invariant.found;
  whole = λ none. searching_ends c.args.leaves.now c.args.enters.now c.args.sources.now c.args.count c.loop-index.search c.loop-index.index c.loop-index.invariant (first_of (search rules, grind (arith, common_steps)));
}
