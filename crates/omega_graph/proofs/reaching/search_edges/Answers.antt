-- `search_edges`: meets the states that are reached from some states by edges of a list.
use Rattle.std.proofs.Common.{ℕ, length, sym, subst, ap, ◌∙◌}
use Rattle.std.proofs.lemmas.List.{length-map}
use Rattle.omega_graph.specs.Graph.{ends_at}
use Rattle.omega_graph.specs.private.Searching.{IsSearched}
use Rattle.omega_graph.proofs.Apart.{all_below}
use Rattle.omega_graph.proofs.reaching.search_edges.Goals as goal

pub search_from-requires-clause-even : goal.search_from-requires-clause-even
search_from-requires-clause-even c =
    ap length (c.as_slice-2.ensures.value ∙ c.in_ok-enters.ensures.enters) ∙ length-map c.args.edges.now (λ edge. (ends_at c.args.graph.now edge).to)
    ∙ sym (ap length (c.as_slice.ensures.value ∙ c.in_ok-leaves.ensures.leaves) ∙ length-map c.args.edges.now (λ edge. (ends_at c.args.graph.now edge).from))

pub search_from-requires-clause-leaves : goal.search_from-requires-clause-leaves
search_from-requires-clause-leaves c =
    all_below c.in_ok-leaves.leaves.items c.as_slice.result.now c.args.graph.now.states c.states-count.result c.as_slice.ensures.value c.states-count.ensures c.in_ok-leaves.ensures.inside

pub search_from-requires-clause-enters : goal.search_from-requires-clause-enters
search_from-requires-clause-enters c =
    all_below c.in_ok-enters.enters.items c.as_slice-2.result.now c.args.graph.now.states c.states-count.result c.as_slice-2.ensures.value c.states-count.ensures c.in_ok-enters.ensures.inside

pub returns : goal.returns
returns c = record {
  leaves = c.as_slice.result.now;
  enters = c.as_slice-2.result.now;
  ends = λ marks. record { leave = c.as_slice.ensures.value ∙ c.in_ok-leaves.ensures.leaves; enter = c.as_slice-2.ensures.value ∙ c.in_ok-enters.ensures.enters };
  searched =
      subst (λ (n : ℕ). IsSearched c.as_slice.result.now c.as_slice-2.result.now c.args.sources.now n c.in_ok-search.search) c.states-count.ensures c.in_ok-search.ensures;
}
