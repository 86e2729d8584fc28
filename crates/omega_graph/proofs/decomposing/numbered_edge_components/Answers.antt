-- `numbered_edge_components`: the components of edges by the numbers of the states at which they end.
use Rattle.std.proofs.Common.{◌<◌, length, take, drop, ◌∙◌, ap, rules}
use Rattle.std.proofs.lemmas.List.Elements.{All-drop, All-take}
use Rattle.omega_graph.proofs.Apart.{all_below}
use Rattle.omega_graph.proofs.decomposing.numbered_edge_components.Goals as goal

pub edge_components_by-requires-clause-inside : goal.edge_components_by-requires-clause-inside
edge_components_by-requires-clause-inside c = record {
  leaves = all_below (take (length c.args.edges.now) c.args.numbering.now.numbers.items) c.split_at.result.0.now (length c.args.numbering.now.states.items) _
      (c.split_at.ensures.front ∙ ap (take (length c.args.edges.now)) c.as_slice.ensures.value) (search rules)
      (All-take (λ n. n < length c.args.numbering.now.states.items) (length c.args.edges.now) c.args.numbering.now.numbers.items c.requires.below);
  enters = all_below (drop (length c.args.edges.now) c.args.numbering.now.numbers.items) c.split_at.result.1.now (length c.args.numbering.now.states.items) _
      (c.split_at.ensures.back ∙ ap (drop (length c.args.edges.now)) c.as_slice.ensures.value) (search rules)
      (All-drop (λ n. n < length c.args.numbering.now.states.items) (length c.args.edges.now) c.args.numbering.now.numbers.items c.requires.below);
}

pub returns : goal.returns
returns c =
    λ graph ends.
    c.in_ok-edge_components.ensures graph (record {
      leave = c.split_at.ensures.front ∙ ap (take (length c.args.edges.now)) c.as_slice.ensures.value ∙ ends.leave;
      enter = c.split_at.ensures.back ∙ ap (drop (length c.args.edges.now)) c.as_slice.ensures.value ∙ ends.enter;
    })
