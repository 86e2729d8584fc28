-- each node finds its parts; at the end no node is left, and the formula is at the last place
use Rattle.std.proofs.Common.{◌≡◌, ◌<◌, ◌≤◌, false, List, [], ◌∷◌, length, get_or, ap, arith, subst, sym, ◌∙◌, refl}
use Rattle.std.proofs.lemmas.List.Elements.{All-nil}
use Rattle.std.proofs.lemmas.List.{drop_all, length-map}
use Rattle.omega_hoa_acceptance.specs.Acceptance.{AccTree}
use Rattle.omega_hoa_acceptance.specs.declared.formula.AccNode.TheVariants.{Constant}
use Rattle.omega_graph_accepting_walk.specs.private.Formulas.{HasParts, tree_at, trees_at, trees_left}
use Rattle.omega_graph_accepting_walk.proofs.NodesPushed.{have_parts, parts_next, top_tree, trees_formula}
use Rattle.omega_graph_accepting_walk.proofs.flattening.add_formula.Goals as goal

pub loop-node-init : goal.loop-node-init
loop-node-init c =
    rw c.new-places.ensures (record {
      parts = record { formula = c.requires; within = All-nil (λ place. place < length c.args.nodes.now.items) };
      trees = refl;
      enough = have_parts c.args.formula.now c.nodes-node-items.result.now c.nodes-node-items.ensures;
    })

pub add_node-requires-clause-parts : goal.add_node-requires-clause-parts
add_node-requires-clause-parts c =
    let nodes = c.loop-node.nodes.items in
    let all = c.nodes-node-items.result.now in
    let next = parts_next (trees_at nodes c.loop-node.places) all c.loop-node.node-index (Constant false) c.loop-node-test.true c.loop-node.invariant.enough in
    subst (λ count. HasParts count (get_or all c.loop-node.node-index (Constant false))) (length-map c.loop-node.places (tree_at nodes)) next.0

pub pop-requires : goal.pop-requires
pop-requires c =
    let nodes = c.loop-node.nodes.items in
    let all = c.nodes-node-items.result.now in
    let end : length all ≤ c.loop-node.node-index = omega (arith, c.loop-node-test.false) in
    let made : trees_at nodes c.loop-node.places ≡ c.args.formula.now ∷ [] =
    ap (trees_left (trees_at nodes c.loop-node.places)) (sym (drop_all c.loop-node.node-index all end))
    ∙ c.loop-node.invariant.trees ∙ trees_formula c.args.formula.now all c.nodes-node-items.ensures in
    omega (arith, ap (λ (trees : List AccTree). length trees) made, length-map c.loop-node.places (tree_at nodes))

pub returns-clause-tree : goal.returns-clause-tree
returns-clause-tree c =
    let nodes = c.loop-node.nodes.items in
    let all = c.nodes-node-items.result.now in
    let end : length all ≤ c.loop-node.node-index = omega (arith, c.loop-node-test.false) in
    let made : trees_at nodes c.loop-node.places ≡ trees_left [] all =
    ap (trees_left (trees_at nodes c.loop-node.places)) (sym (drop_all c.loop-node.node-index all end)) ∙ c.loop-node.invariant.trees in
    top_tree nodes c.loop-node.places c.pop.new.self c.pop.result c.args.formula.now all c.pop.ensures made c.nodes-node-items.ensures
