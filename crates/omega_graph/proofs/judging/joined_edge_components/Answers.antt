-- `joined_edge_components`: the kept edges by components, or none if edges of a component do not lead to each other.
use Rattle.std.proofs.Common.{◌≡◌, true, ℕ, List, length, map, sym, ◌∙◌, ap, subst, arith}
use Rattle.std.proofs.lemmas.Grind.{common_steps}
use Rattle.omega_graph.specs.private.Judging.{AreBuckets, key_from}
use Rattle.omega_graph.proofs.Judged.{judged}
use Rattle.omega_graph.proofs.judging.joined_edge_components.Goals as goal

pub returns : goal.returns
returns c =
    λ graph edges is.
    let joined : c.in_ok-joined.joined ≡ true = grind (arith, common_steps) in
    judged graph c.args.suggestion.now.components.items edges c.args.kept.now.edges.items c.args.kept.now.leaves.items c.args.kept.now.enters.items c.args.kept.now.keys.items
    c.in_ok-edge_components.edge_components (length c.args.suggestion.now.components.items) is (c.in_ok-joined.ensures joined graph is.ends (λ n has. (is.same n has).1)) c.requires.key
    (subst (λ (es : List ℕ). AreBuckets (key_from graph c.args.suggestion.now.components.items) es (length c.args.suggestion.now.components.items) c.in_ok-edge_components.edge_components) c.as_slice-2.ensures.value
    (subst (λ (n : ℕ). AreBuckets (key_from graph c.args.suggestion.now.components.items) c.as_slice-2.result.now n c.in_ok-edge_components.edge_components) (ap length c.as_slice-components.ensures.value)
    (c.in_ok-edge_components.ensures (key_from graph c.args.suggestion.now.components.items) (c.as_slice.ensures.value ∙ is.keys_are ∙ ap (map (key_from graph c.args.suggestion.now.components.items)) (sym c.as_slice-2.ensures.value)))))
