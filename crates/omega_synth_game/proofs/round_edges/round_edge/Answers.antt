-- the edge at the place, and the marks of its state and its own
use Rattle.std.proofs.Common.{◌≡◌, ◌++◌, ℕ, List, get_or, ap, ap₂, refl, ◌∙◌, arith}
use Rattle.omega_hoa_automaton.specs.declared.edge.Edge.{Edge}
use Rattle.omega_hoa_automaton.specs.declared.state.State.{State}
use Rattle.omega_synth_game.proofs.EdgesMade.{count_low, edge_made, marks_below}
use Rattle.omega_synth_game.proofs.Whole.{edge_is, state_is}
use Rattle.omega_synth_game.proofs.round_edges.round_edge.Goals as goal

pub priority-requires-clause-count : goal.priority-requires-clause-count
priority-requires-clause-count c =
    omega (arith, count_low c.args.automaton.now c.args.kind c.keeps_limits.ensures c.requires.kind)

pub priority-requires-clause-marks : goal.priority-requires-clause-marks
priority-requires-clause-marks c =
    let a = c.args.automaton.now in
    let stands = c.requires.place in
    let state : State = c.index-defined-place.result in
    let edge : Edge = c.edge-edge.result in
    let state_same : state ≡ stands.state =
    c.index-defined-place.is ∙ ap (λ (list : List State). get_or list c.args.place.state state) c.defined.ensures
    ∙ state_is a c.args._number c.args.place stands state in
    let edge_same : edge ≡ stands.edge =
    c.edge-edge.ensures ∙ ap (λ (s : State). get_or s.edges c.args.place.index edge) state_same
    ∙ edge_is a c.args._number c.args.place stands edge in
    marks_below a c.args.kind c.keeps_limits.ensures c.requires.kind c.args._number c.args.place stands c.as_slice-2.result.now
    (c.as_slice-2.ensures.value ∙ c.in_ok-extend_from_slice-2.ensures.items
    ∙ ap (λ (l : List ℕ). l ++ c.marks.result.now) (c.in_ok-extend_from_slice.ensures.items ∙ ap (λ (l : List ℕ). l ++ c.as_slice.result.now) c.new-marks.ensures.items)
    ∙ ap₂ ◌++◌ (c.as_slice.ensures ∙ ap (λ (s : State). s.marks) state_same) (c.marks.ensures ∙ ap (λ (e : Edge). e.marks) edge_same))

pub returns-clause-edge : goal.returns-clause-edge
returns-clause-edge c =
    let a = c.args.automaton.now in
    let stands = c.requires.place in
    let state : State = c.index-defined-place.result in
    let edge : Edge = c.edge-edge.result in
    let state_same : state ≡ stands.state =
    c.index-defined-place.is ∙ ap (λ (list : List State). get_or list c.args.place.state state) c.defined.ensures
    ∙ state_is a c.args._number c.args.place stands state in
    let edge_same : edge ≡ stands.edge =
    c.edge-edge.ensures ∙ ap (λ (s : State). get_or s.edges c.args.place.index edge) state_same
    ∙ edge_is a c.args._number c.args.place stands edge in
    edge_made a c.args.kind c.keeps_limits.ensures c.requires.kind c.args._number c.args.place stands c.requires.plain state edge c.as_slice-2.result.now
    state.number (get_or c.targets.result.now 0 0) c.priority.result state_same edge_same
    (c.as_slice-2.ensures.value ∙ c.in_ok-extend_from_slice-2.ensures.items
    ∙ ap (λ (l : List ℕ). l ++ c.marks.result.now) (c.in_ok-extend_from_slice.ensures.items ∙ ap (λ (l : List ℕ). l ++ c.as_slice.result.now) c.new-marks.ensures.items)
    ∙ ap₂ ◌++◌ (c.as_slice.ensures ∙ ap (λ (s : State). s.marks) state_same) (c.marks.ensures ∙ ap (λ (e : Edge). e.marks) edge_same))
    refl (ap (λ (l : List ℕ). get_or l 0 0) c.targets.ensures) c.priority.ensures
