-- the whole label is judged, or refused
use Rattle.std.proofs.Common.{◌≡◌, List, ℕ, length, get_or, ap, ◌∙◌}
use Rattle.omega_hoa_automaton.specs.declared.edge.Edge.{Edge}
use Rattle.omega_hoa_automaton.specs.declared.state.State.{State}
use Rattle.omega_hoa_edges.specs.Labels.{label_at}
use Rattle.omega_hoa_edges.proofs.Refusals.{passed_on}
use Rattle.omega_synth_game.proofs.Whole.{answers_judged, edge_is, label_is, state_is, unanswered, unfit_unanswered}
use Rattle.omega_synth_game.proofs.letters.answers_letter.Goals as goal

pub returns-clause-judged : goal.returns-clause-judged
returns-clause-judged c =
    let a = c.args.automaton.now in
    let stands = c.requires in
    let state : State = c.index-defined-place.result in
    let edge : Edge = c.edge-edge.result in
    let state_same : state ≡ stands.state =
    c.index-defined-place.is ∙ ap (λ (list : List State). get_or list c.args.place.state state) c.defined.ensures
    ∙ state_is a c.args._number c.args.place stands state in
    let edge_same : edge ≡ stands.edge =
    c.edge-edge.ensures ∙ ap (λ (s : State). get_or s.edges c.args.place.index edge) state_same
    ∙ edge_is a c.args._number c.args.place stands edge in
    let has : c.get-2.result.now ≡ label_at (length a.propositions) state c.args.place.index edge =
    c.get-2.ensures ∙ c.in_ok-label.ensures.label
    ∙ ap (λ (names : List (List ℕ)). label_at (length names) state c.args.place.index edge) c.propositions-count.ensures in
    answers_judged a c.args._number c.args.place stands c.edges_are_taken_where_true.ensures c.args.controlled.now c.args.letter.now
    c.can_answer.result c.get-2.result.now (label_is a c.args._number c.args.place stands c.get-2.result.now state edge state_same edge_same has)
    c.can_answer.ensures.judged

pub returns-in_err-judge_size-clause-refused : goal.returns-in_err-judge_size-clause-refused
returns-in_err-judge_size-clause-refused c =
    let a = c.args.automaton.now in
    let stands = c.requires in
    let state : State = c.index-defined-place.result in
    let edge : Edge = c.edge-edge.result in
    let state_same : state ≡ stands.state =
    c.index-defined-place.is ∙ ap (λ (list : List State). get_or list c.args.place.state state) c.defined.ensures
    ∙ state_is a c.args._number c.args.place stands state in
    let edge_same : edge ≡ stands.edge =
    c.edge-edge.ensures ∙ ap (λ (s : State). get_or s.edges c.args.place.index edge) state_same
    ∙ edge_is a c.args._number c.args.place stands edge in
    let has : c.get.result.now ≡ label_at (length a.propositions) state c.args.place.index edge =
    c.get.ensures ∙ c.in_ok-label.ensures.label
    ∙ ap (λ (names : List (List ℕ)). label_at (length names) state c.args.place.index edge) c.propositions-count.ensures in
    passed_on c.from_residual-in_err-judge_size.result _ _ c.from_residual-in_err-judge_size.ensures.1
    (unfit_unanswered a c.args._number c.args.place stands c.args.controlled.now c.args.letter.now c.in_err-judge_size.field-0.0 c.get.result.now
    (label_is a c.args._number c.args.place stands c.get.result.now state edge state_same edge_same has) c.in_err-judge_size.ensures.err)

pub returns-clause-refused : goal.returns-clause-refused
returns-clause-refused c =
    let a = c.args.automaton.now in
    let stands = c.requires in
    let state : State = c.index-defined-place.result in
    let edge : Edge = c.edge-edge.result in
    let state_same : state ≡ stands.state =
    c.index-defined-place.is ∙ ap (λ (list : List State). get_or list c.args.place.state state) c.defined.ensures
    ∙ state_is a c.args._number c.args.place stands state in
    let edge_same : edge ≡ stands.edge =
    c.edge-edge.ensures ∙ ap (λ (s : State). get_or s.edges c.args.place.index edge) state_same
    ∙ edge_is a c.args._number c.args.place stands edge in
    let has : c.get-2.result.now ≡ label_at (length a.propositions) state c.args.place.index edge =
    c.get-2.ensures ∙ c.in_ok-label.ensures.label
    ∙ ap (λ (names : List (List ℕ)). label_at (length names) state c.args.place.index edge) c.propositions-count.ensures in
    unanswered a c.args._number c.args.place stands c.args.controlled.now c.args.letter.now c.can_answer.result c.get-2.result.now
    (label_is a c.args._number c.args.place stands c.get-2.result.now state edge state_same edge_same has) c.can_answer.ensures.refused
