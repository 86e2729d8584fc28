-- `gathered`: the edges by their keys.
use Rattle.std.proofs.Common.{◌≡◌, ◌<◌, ℕ, List, [], ◌∷◌, ◌++◌, length, subst, ap, sym, ◌∙◌, arith}
use Rattle.omega_graph.specs.private.Judging.{AreBuckets, IsBucket, IsPicked}
use Rattle.omega_graph.proofs.Judged.{buckets_more, picked_bucket}
use Rattle.omega_graph.proofs.judging.components_by_key.Goals as goal

pub loop-key-preserved : goal.loop-key-preserved
loop-key-preserved c =
    λ key_of are.
    let slice : c.as_slice.result.now ≡ c.pick.new.edge_component.items = c.as_slice.ensures.value in
    let bucket : IsBucket key_of c.args.edges.now c.loop-key.key c.pick.new.edge_component.items =
    picked_bucket key_of c.args.keys.now c.args.edges.now c.loop-key.key c.pick.new.edge_component.items are
    (subst (λ (ks : List ℕ). IsPicked ks c.args.edges.now c.loop-key.key c.pick.new.edge_component.items) c.in_ok-links.ensures.states c.in_ok-pick.ensures) in
    buckets_more key_of c.args.edges.now c.loop-key.key c.loop-key.edge_components (c.loop-key.invariant key_of are) c.pick.new.edge_component.items bucket c.add.new.self
    (λ some. c.in_ok-add.ensures.some (subst (λ (g : List ℕ). 0 < length g) (sym slice) some) ∙ ap (λ (g : List ℕ). c.loop-key.edge_components ++ g ∷ []) slice)
    (λ none. c.in_ok-add.ensures.none (ap length slice ∙ none))

pub returns : goal.returns
returns c =
    λ key_of are.
    let end : c.loop-key.key ≡ c.args.count = omega arith in
    subst (λ (n : ℕ). AreBuckets key_of c.args.edges.now n c.loop-key.edge_components) end (c.loop-key.invariant key_of are)
