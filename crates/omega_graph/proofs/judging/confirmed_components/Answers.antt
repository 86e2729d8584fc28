-- `confirmed`: the components of edges by numbers of the states' components.
use Rattle.std.specs.Option.{IfSome}
use Rattle.std.proofs.Common.{ℕ, List, Option, Some, None, subst}
use Rattle.omega_graph.specs.Walks.{MarkedGraph}
use Rattle.omega_graph.specs.declared.kept.Kept.{Kept}
use Rattle.omega_graph.specs.private.Classes.{AreComponents}
use Rattle.omega_graph.specs.private.Ends.{HasEdges}
use Rattle.omega_graph.specs.private.Judging.{IsKept}
use Rattle.omega_graph.proofs.judging.confirmed_components.Goals as goal

-- what follows from a fact about a value holds if the fact does
weaker : {X : Type 0} (P Q : X → Type 0) (o : Option X) → ((x : X) → P x → Q x) → IfSome o P → IfSome o Q
weaker P Q None follows holds = holds
weaker P Q (Some x) follows holds = follows x holds

pub returns : goal.returns
returns c =
    let kept : (graph : MarkedGraph) → HasEdges graph c.args.edges.now
    → IsKept graph c.args.suggestion.now.components.items c.args.edges.now.numbers.now c.in-Some.kept.edges.items c.in-Some.kept.leaves.items c.in-Some.kept.enters.items c.in-Some.kept.keys.items =
    subst (λ (components : List ℕ). (graph : MarkedGraph) → HasEdges graph c.args.edges.now
    → IsKept graph components c.args.edges.now.numbers.now c.in-Some.kept.edges.items c.in-Some.kept.leaves.items c.in-Some.kept.enters.items c.in-Some.kept.keys.items) c.as_slice-components.ensures.value
    (subst (λ (o : Option Kept). IfSome o (λ k. (graph : MarkedGraph) → HasEdges graph c.args.edges.now
    → IsKept graph c.as_slice-components.result.now c.args.edges.now.numbers.now k.edges.items k.leaves.items k.enters.items k.keys.items)) c.in-Some.is c.in_ok-found.ensures.kept) in
    weaker
    (λ (edge_components : List (List ℕ)). (graph : MarkedGraph) (edges : List ℕ)
    → IsKept graph c.args.suggestion.now.components.items edges c.in-Some.kept.edges.items c.in-Some.kept.leaves.items c.in-Some.kept.enters.items c.in-Some.kept.keys.items → AreComponents graph edges edge_components)
    (λ (edge_components : List (List ℕ)). (graph : MarkedGraph) → HasEdges graph c.args.edges.now → AreComponents graph c.args.edges.now.numbers.now edge_components)
    c.in_ok-edge_components.edge_components (λ edge_components are graph ends. are graph c.args.edges.now.numbers.now (kept graph ends)) c.in_ok-edge_components.ensures
