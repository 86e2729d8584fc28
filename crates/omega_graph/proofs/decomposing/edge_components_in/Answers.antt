-- `edge_components_in`: the components by numbers of the states at which the edges end.
use Rattle.std.proofs.Common.{◌≡◌, ◌<◌, ◌≤◌, ℕ, List, All, [], ◌++◌, length, map, take, drop, refl, sym, ◌∙◌, ap, subst, arith}
use Rattle.std.proofs.lemmas.List.Elements.{All-append, All-weaker}
use Rattle.omega_graph.specs.Walks.{MarkedGraph}
use Rattle.omega_graph.specs.Graph.{marked}
use Rattle.omega_graph.proofs.Numbered.{numbered_components, numbers_below, numbers_count}
use Rattle.omega_graph.proofs.decomposing.edge_components_in.Goals as goal

-- the ends of the edges, in one list
ends_are : (front behind slice whole froms tos : List ℕ) → whole ≡ front ++ slice → slice ≡ behind → front ≡ froms → behind ≡ tos → whole ≡ froms ++ tos
ends_are front behind slice whole froms tos joined same front_is behind_is =
    joined ∙ ap (λ (xs : List ℕ). front ++ xs) (same ∙ behind_is) ∙ ap (λ (xs : List ℕ). xs ++ tos) front_is

-- they are below a bound that is no less
inside : (front behind slice whole sent : List ℕ) (states scratch : ℕ) → states ≤ scratch → whole ≡ front ++ slice → slice ≡ behind → sent ≡ whole
    → All (λ s. s < states) front → All (λ s. s < states) behind → All (λ s. s < scratch) sent
inside front behind slice whole sent states scratch low joined same sent_is low_front low_behind =
    subst (λ (xs : List ℕ). All (λ s. s < scratch) xs) (sym (sent_is ∙ joined ∙ ap (λ (xs : List ℕ). front ++ xs) same))
    (All-weaker (λ s. s < states) (λ s. s < scratch) (λ s below. omega arith) (front ++ behind) (All-append (λ s. s < states) front behind low_front low_behind))

pub number-requires : goal.number-requires
number-requires c =
    inside c.in_ok-leaves.leaves.items c.in_ok-enters.enters.items c.as_slice-2.result.now c.in_ok-ends.ends.items c.as_slice-3.result.now c.args.graph.now.states c.args.scratch.now
    c.requires.scratch c.in_ok-ends.ensures c.as_slice-2.ensures.value c.as_slice-3.ensures.value c.in_ok-leaves.ensures.inside c.in_ok-enters.ensures.inside

pub numbered_edge_components-requires-clause-count : goal.numbered_edge_components-requires-clause-count
numbered_edge_components-requires-clause-count c =
    let graph : MarkedGraph = marked c.args.graph.now (λ n. []) in
    numbers_count graph c.args.edges.now c.as_slice-3.result.now c.in_ok-numbering.numbering.numbers.items c.in_ok-numbering.numbering.states.items
    (take (length c.args.edges.now) c.in_ok-numbering.numbering.numbers.items) (drop (length c.args.edges.now) c.in_ok-numbering.numbering.numbers.items) c.in_ok-numbering.ensures.numbering
    (c.as_slice-3.ensures.value
    ∙ ends_are c.in_ok-leaves.leaves.items c.in_ok-enters.enters.items c.as_slice-2.result.now c.in_ok-ends.ends.items (map (λ n. (graph n).from) c.args.edges.now) (map (λ n. (graph n).to) c.args.edges.now)
    c.in_ok-ends.ensures c.as_slice-2.ensures.value c.in_ok-leaves.ensures.leaves c.in_ok-enters.ensures.enters)
    refl refl

pub numbered_edge_components-requires-clause-below : goal.numbered_edge_components-requires-clause-below
numbered_edge_components-requires-clause-below c =
    numbers_below c.as_slice-3.result.now c.in_ok-numbering.numbering.numbers.items c.in_ok-numbering.numbering.states.items c.in_ok-numbering.ensures.numbering

pub returns-clause-components : goal.returns-clause-components
returns-clause-components c =
    λ marks.
    let graph : MarkedGraph = marked c.args.graph.now marks in
    numbered_components graph c.args.edges.now c.as_slice-3.result.now c.in_ok-numbering.numbering.numbers.items c.in_ok-numbering.numbering.states.items
    (take (length c.args.edges.now) c.in_ok-numbering.numbering.numbers.items) (drop (length c.args.edges.now) c.in_ok-numbering.numbering.numbers.items) c.in_ok-numbering.ensures.numbering
    (c.as_slice-3.ensures.value
    ∙ ends_are c.in_ok-leaves.leaves.items c.in_ok-enters.enters.items c.as_slice-2.result.now c.in_ok-ends.ends.items (map (λ n. (graph n).from) c.args.edges.now) (map (λ n. (graph n).to) c.args.edges.now)
    c.in_ok-ends.ensures c.as_slice-2.ensures.value c.in_ok-leaves.ensures.leaves c.in_ok-enters.ensures.enters)
    refl refl c.in_ok-edge_components-2.edge_components c.in_ok-edge_components-2.ensures
