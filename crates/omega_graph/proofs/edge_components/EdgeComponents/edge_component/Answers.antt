-- `EdgeComponents::edge_component`: the component at an index.
use Rattle.std.proofs.Common.{◌<◌, [], length, get_or, arith, ap, sym, ◌∙◌}
use Rattle.omega_text.proofs.JoinedLists.{length-lists_of, get_or-lists_of}
use Rattle.omega_graph.proofs.edge_components.EdgeComponents.edge_component.Goals as goal

pub list_in-requires-clause-within : goal.list_in-requires-clause-within
list_in-requires-clause-within c =
    omega (arith, ap length c.as_slice.ensures.value, length-lists_of c.self.inside.starts.items c.self.inside.edges.items, ap length c.self.view_is, c.requires)

pub returns : goal.returns
returns c =
    let here : c.args.index < length c.self.inside.starts.items = omega (arith, length-lists_of c.self.inside.starts.items c.self.inside.edges.items, ap length c.self.view_is, c.requires) in
    c.list_in.ensures ∙ rw (c.as_slice.ensures.value, c.as_slice-2.ensures.value) (sym (get_or-lists_of c.self.inside.starts.items c.self.inside.edges.items c.args.index [] here)) ∙ ap (λ lists. get_or lists c.args.index []) c.self.view_is
