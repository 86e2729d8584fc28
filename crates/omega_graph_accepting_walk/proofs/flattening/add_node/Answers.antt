-- one more node, and its place on top
use Rattle.std.proofs.Common.{◌≡◌, ◌∷◌, ◌<◌, length, All, ap, sym, subst, ◌∙◌}
use Rattle.omega_graph_accepting_walk.specs.private.Formulas.{node_tree, tree_at, trees_at, trees_with}
use Rattle.omega_graph_accepting_walk.proofs.NodesPushed.{trees_pushed, within_pushed}
use Rattle.omega_graph_accepting_walk.proofs.flattening.add_node.Goals as goal

pub next_node-next-requires-clause-within : goal.next_node-next-requires-clause-within
next_node-next-requires-clause-within c =
    subst (λ nodes. All (λ place. place < length nodes) c.args.places.now) (sym c.as_slice.ensures.value) c.requires.places.within

pub returns-clause-parts : goal.returns-clause-parts
returns-clause-parts c =
    let within = subst (λ nodes. All (λ place. place < length nodes) c.next_node-next.new.places) c.as_slice.ensures.value c.next_node-next.ensures.within in
    record {
      formula = c.in_ok-place.ensures.formula;
      within = subst (All (λ place. place < length c.push_node.new.nodes.items)) (sym c.in_ok-push.ensures.ok)
          (within_pushed c.args.nodes.now.items c.push_node.new.nodes.items c.next_node-next.result c.in_ok-place.place c.next_node-next.new.places
          c.in_ok-place.ensures.items c.in_ok-place.ensures.place within);
    }

pub returns-clause-trees : goal.returns-clause-trees
returns-clause-trees c =
    let within = subst (λ nodes. All (λ place. place < length nodes) c.next_node-next.new.places) c.as_slice.ensures.value c.next_node-next.ensures.within in
    let tree = subst (λ nodes. node_tree (tree_at nodes) c.next_node-next.result ∷ trees_at nodes c.next_node-next.new.places ≡ trees_with (trees_at nodes c.args.places.now) c.args.node)
    c.as_slice.ensures.value c.next_node-next.ensures.tree in
    ap (trees_at c.push_node.new.nodes.items) c.in_ok-push.ensures.ok
    ∙ (trees_pushed c.args.nodes.now.items c.push_node.new.nodes.items c.next_node-next.result c.in_ok-place.place c.next_node-next.new.places
    c.in_ok-place.ensures.items c.in_ok-place.ensures.place within ∙ tree)
