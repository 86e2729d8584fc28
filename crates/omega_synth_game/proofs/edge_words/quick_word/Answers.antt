-- the label that the edge has is its whole label
use Rattle.std.proofs.Common.{◌≡◌, List, ℕ, length, get_or, ap, ◌∙◌}
use Rattle.omega_hoa_automaton.specs.declared.edge.Edge.{Edge}
use Rattle.omega_hoa_automaton.specs.declared.state.State.{State}
use Rattle.omega_hoa_edges.specs.Labels.{label_at}
use Rattle.omega_synth_game.proofs.EdgesInLanes.{quick_judged}
use Rattle.omega_synth_game.proofs.Whole.{body, edge_is, label_is, state_is}
use Rattle.omega_synth_game.proofs.edge_words.quick_word.Goals as goal

pub returns-clause-word : goal.returns-clause-word
returns-clause-word c =
    let a = c.args.automaton.now in
    let stands = c.requires.place in
    let lanes = c.args.lanes.now in
    let state : State = c.index-defined-place.result in
    let edge : Edge = c.edge-edge.result in
    let state_same : state ≡ stands.state =
    c.index-defined-place.is ∙ ap (λ (list : List State). get_or list c.args.place.state state) c.defined.ensures
    ∙ state_is a c.args._number c.args.place stands state in
    let edge_same : edge ≡ stands.edge =
    c.edge-edge.ensures ∙ ap (λ (s : State). get_or s.edges c.args.place.index edge) state_same
    ∙ edge_is a c.args._number c.args.place stands edge in
    let has : c.get.result.now ≡ label_at (length a.propositions) state c.args.place.index edge =
    c.get.ensures ∙ c.in_ok-label.ensures.label
    ∙ ap (λ (names : List (List ℕ)). label_at (length names) state c.args.place.index edge) c.propositions-count.ensures in
    quick_judged a lanes.controlled.now lanes.inputs.now lanes.block c.edges_are_taken_where_true.ensures c.args._number (body a c.args._number c.args.place stands) stands.numbered
    c.get.result.now (label_is a c.args._number c.args.place stands c.get.result.now state edge state_same edge_same has)
    c.answer_word.result c.answer_word.ensures.word
