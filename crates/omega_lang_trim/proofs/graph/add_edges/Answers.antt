-- one edge more
use Rattle.std.proofs.Common.{◌≡◌, ◌<◌, ◌++◌, ℕ, List, [], ◌∷◌, length, get_or, map, take, sym, ap, ◌∙◌, arith}
use Rattle.std.proofs.lemmas.List.{append_assoc, map-append}
use Rattle.omega_hoa_automaton.specs.Automaton.{BodyEdge, edges_from}
use Rattle.omega_hoa_automaton.specs.declared.edge.Edge as automata
use Rattle.omega_graph.specs.Graph.{edge_of}
use Rattle.omega_graph.specs.declared.edge.Edge.{Edge}
use Rattle.omega_lang_runs.proofs.Edges.{edges_take}
use Rattle.omega_lang_lasso_search.specs.Tabled.{first_of}
use Rattle.omega_lang_lasso_search.proofs.Names.{first_is}
use Rattle.omega_lang_trim.specs.private.Placed.{placed_in}
use Rattle.omega_lang_trim.proofs.Among.{place_among, place_bound}
use Rattle.omega_lang_trim.proofs.graph.add_edges.Goals as goal

pub add-requires-clause-from : goal.add-requires-clause-from
add-requires-clause-from c =
    let bound = place_bound c.args.places.now.keys c.args.state.now.number in
    omega (arith, bound, c.place_in-from.ensures, c.loop-at.invariant.states)

pub add-requires-clause-to : goal.add-requires-clause-to
add-requires-clause-to c =
    let bound = place_bound c.args.places.now.keys (get_or c.targets.result.now 0 0) in
    omega (arith, bound, c.place_in.ensures, c.loop-at.invariant.states)

pub loop-at-preserved : goal.loop-at-preserved
loop-at-preserved c =
    let keys : List ℕ = c.args.places.now.keys in
    let index : ℕ = c.loop-at.at in
    let edge : automata.Edge = c.edge-edge.result in
    let below : index < length c.args.state.now.edges = omega (arith, c.len-at-end.ensures, c.loop-at-test.true) in
    let one : BodyEdge = record { source = c.args.state.now; edge = edge } in
    let to : c.place_in.result ≡ place_among keys (first_of edge.targets) =
    c.place_in.ensures ∙ ap (λ (states : List ℕ). place_among keys (get_or states 0 0)) c.targets.ensures ∙ ap (place_among keys) (first_is edge.targets) in
    let is : edge_of c.place_in-from.result c.place_in.result ≡ placed_in keys one =
    ap (λ (p : ℕ). edge_of p c.place_in.result) c.place_in-from.ensures ∙ ap (edge_of (place_among keys c.args.state.now.number)) to in
    record {
      states = c.add.ensures.states ∙ c.loop-at.invariant.states;
      edges = c.in_ok-add.ensures.ok
          ∙ ap (λ (list : List Edge). list ++ edge_of c.place_in-from.result c.place_in.result ∷ []) c.loop-at.invariant.edges
          ∙ ap (λ (e : Edge). (c.args.graph.now.edges ++ map (placed_in keys) (take index (edges_from c.args.state.now))) ++ e ∷ []) is
          ∙ append_assoc c.args.graph.now.edges (map (placed_in keys) (take index (edges_from c.args.state.now))) (placed_in keys one ∷ [])
          ∙ ap (λ (list : List Edge). c.args.graph.now.edges ++ list)
          (sym (map-append (placed_in keys) (take index (edges_from c.args.state.now)) (one ∷ []))
          ∙ ap (map (placed_in keys)) (sym (edges_take c.args.state.now index edge below c.edge-edge.ensures)));
    }
