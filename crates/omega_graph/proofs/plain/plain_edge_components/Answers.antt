-- `plain_edge_components`: the components of edges.
use Rattle.std.proofs.Common.{◌≡◌, ◌<◌, ℕ, List, [], ◌∷◌, ◌++◌, length, sym, ◌∙◌, ap, subst, arith}
use Rattle.omega_graph.proofs.Classes.{AreClasses, classes_are, classes_more}
use Rattle.omega_graph.proofs.plain.plain_edge_components.Goals as goal

pub loop-index-preserved : goal.loop-index-preserved
loop-index-preserved c =
    λ graph ends.
    let within : c.loop-index.index < length c.args.edges.now.numbers.now = omega arith in
    let slice : c.as_slice.result.now ≡ c.in_ok-edge_component.edge_component.items = c.as_slice.ensures.value in
    classes_more graph c.args.edges.now.numbers.now c.loop-index.index within c.loop-index.edge_components (c.loop-index.invariant graph ends) c.in_ok-edge_component.edge_component.items c.add.new.self (c.in_ok-edge_component.ensures graph ends)
    (λ some. c.in_ok-add.ensures.some (subst (λ (g : List ℕ). 0 < length g) (sym slice) some) ∙ ap (λ (g : List ℕ). c.loop-index.edge_components ++ g ∷ []) slice)
    (λ none. c.in_ok-add.ensures.none (ap length slice ∙ none))

pub returns : goal.returns
returns c =
    λ graph ends.
    let end : c.loop-index.index ≡ length c.args.edges.now.numbers.now = omega arith in
    classes_are graph c.args.edges.now.numbers.now c.loop-index.edge_components (subst (λ (n : ℕ). AreClasses graph c.args.edges.now.numbers.now n c.loop-index.edge_components) end (c.loop-index.invariant graph ends))
