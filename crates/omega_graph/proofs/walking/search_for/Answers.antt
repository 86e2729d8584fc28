-- `search_for`: meets states that are reached from some states by edges of a list, until it met a target.
use Rattle.std.proofs.Common.{ℕ, length, sym, subst, ap, ◌∙◌}
use Rattle.std.proofs.lemmas.List.{length-map}
use Rattle.omega_graph.specs.Graph.{ends_at}
use Rattle.omega_graph.specs.private.Searching.{IsSearchedTo}
use Rattle.omega_graph.proofs.Apart.{all_below}
use Rattle.omega_graph.proofs.walking.search_for.Goals as goal

pub search_to-requires-clause-even : goal.search_to-requires-clause-even
search_to-requires-clause-even c =
    ap length (c.as_slice-enters.ensures.value ∙ c.in_ok-enters.ensures.enters) ∙ length-map c.args.edges.now (λ edge. (ends_at c.args.graph.now edge).to)
    ∙ sym (ap length (c.as_slice-leaves.ensures.value ∙ c.in_ok-leaves.ensures.leaves) ∙ length-map c.args.edges.now (λ edge. (ends_at c.args.graph.now edge).from))

pub search_to-requires-clause-leaves : goal.search_to-requires-clause-leaves
search_to-requires-clause-leaves c =
    all_below c.in_ok-leaves.leaves.items c.as_slice-leaves.result.now c.args.graph.now.states c.states-count.result c.as_slice-leaves.ensures.value c.states-count.ensures c.in_ok-leaves.ensures.inside

pub search_to-requires-clause-enters : goal.search_to-requires-clause-enters
search_to-requires-clause-enters c =
    all_below c.in_ok-enters.enters.items c.as_slice-enters.result.now c.args.graph.now.states c.states-count.result c.as_slice-enters.ensures.value c.states-count.ensures c.in_ok-enters.ensures.inside

pub returns : goal.returns
returns c = record {
  leaves = c.as_slice-leaves.result.now;
  enters = c.as_slice-enters.result.now;
  ends = λ marks. record { leave = c.as_slice-leaves.ensures.value ∙ c.in_ok-leaves.ensures.leaves; enter = c.as_slice-enters.ensures.value ∙ c.in_ok-enters.ensures.enters };
  searched =
      subst (λ (n : ℕ). IsSearchedTo c.as_slice-leaves.result.now c.as_slice-enters.result.now c.args.sources.now n c.args.target c.in_ok-search.search) c.states-count.ensures c.in_ok-search.ensures;
}
