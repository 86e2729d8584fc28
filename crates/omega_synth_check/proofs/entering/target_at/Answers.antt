-- the edge at its place
use Rattle.std.proofs.Common.{◌≡◌, ◌<◌, ℕ, inl, inr, List, length, get_or, sym, ap, subst, ◌∙◌, arith}
use Rattle.std.proofs.lemmas.Bool.{false≢true}
use Rattle.omega_hoa_edges.proofs.Refusals.{passed_on}
use Rattle.omega_hoa_automaton.specs.declared.edge.Edge.{Edge}
use Rattle.omega_hoa_automaton.specs.declared.state.State.{State}
use Rattle.omega_lang_runs.specs.Judging.{IsHard}
use Rattle.omega_synth_check.specs.Refusing.{IsHardEdge}
use Rattle.omega_lang_runs.specs.Lasso.{IsUsable}
use Rattle.omega_lang_runs.specs.Places.{EdgeStandsAt}
use Rattle.omega_lang_runs.specs.declared.place.EdgePlace.{EdgePlace}
use Rattle.omega_lang_runs.proofs.Flat.{wide_refused}
use Rattle.omega_synth_game.proofs.Whole.{edge_is, edge_within, state_is, state_within}
use Rattle.omega_synth_check.proofs.Steps.{step_of, target_there, usable_of}
use Rattle.omega_synth_check.proofs.entering.target_at.Goals as goal

pub bounds-defined-place : goal.bounds-defined-place
bounds-defined-place c =
    let a = c.args.automaton.now in
    let place : EdgePlace = c.args.place in
    let stands : EdgeStandsAt a c.args._number place = c.requires.stands in
    omega (arith, state_within a c.args._number place stands, ap length c.defined.ensures)

pub edge-edge-requires : goal.edge-edge-requires
edge-edge-requires c =
    let a = c.args.automaton.now in
    let place : EdgePlace = c.args.place in
    let stands : EdgeStandsAt a c.args._number place = c.requires.stands in
    let state : State = c.index-defined-place.result in
    let state_same : state ≡ stands.state =
    c.index-defined-place.is ∙ ap (λ (list : List State). get_or list place.state state) c.defined.ensures ∙ state_is a c.args._number place stands state in
    subst (λ (s : State). place.index < length s.edges) (sym state_same) (edge_within a c.args._number place stands)

pub bounds-targets-0 : goal.bounds-targets-0
bounds-targets-0 c =
    let a = c.args.automaton.now in
    let place : EdgePlace = c.args.place in
    let stands : EdgeStandsAt a c.args._number place = c.requires.stands in
    let state : State = c.index-defined-place.result in
    let edge : Edge = c.edge-edge.result in
    let state_same : state ≡ stands.state =
    c.index-defined-place.is ∙ ap (λ (list : List State). get_or list place.state state) c.defined.ensures ∙ state_is a c.args._number place stands state in
    let edge_same : edge ≡ stands.edge =
    c.edge-edge.ensures ∙ ap (λ (s : State). get_or s.edges place.index edge) state_same ∙ edge_is a c.args._number place stands edge in
    let there = target_there a c.keeps_limits.ensures c.requires.plain c.args._number place stands in
    omega (arith, there, ap length (c.targets.ensures ∙ ap (λ (e : Edge). e.targets) edge_same))

pub returns-then-usable-clause-step : goal.returns-then-usable-clause-step
returns-then-usable-clause-step c =
    let a = c.args.automaton.now in
    let place : EdgePlace = c.args.place in
    let stands : EdgeStandsAt a c.args._number place = c.requires.stands in
    let state : State = c.index-defined-place.result in
    let edge : Edge = c.edge-edge.result in
    let state_same : state ≡ stands.state =
    c.index-defined-place.is ∙ ap (λ (list : List State). get_or list place.state state) c.defined.ensures ∙ state_is a c.args._number place stands state in
    let edge_same : edge ≡ stands.edge =
    c.edge-edge.ensures ∙ ap (λ (s : State). get_or s.edges place.index edge) state_same ∙ edge_is a c.args._number place stands edge in
    let usable : IsUsable (record { source = state; edge = edge }) =
    subst (λ (s : State). IsUsable (record { source = s; edge = edge })) c.in_ok-judged_state.ensures.state (c.in_ok-usable.ensures.judged.0 c.if-usable.true) in
    λ from leaver.
    step_of a c.keeps_limits.ensures c.requires.plain c.args._number place stands
    (subst (λ (e : Edge). IsUsable (record { source = stands.state; edge = e })) edge_same
    (subst (λ (s : State). IsUsable (record { source = s; edge = edge })) state_same usable))
    (get_or c.targets.result.now 0 0) (ap (λ (list : List ℕ). get_or list 0 0) (c.targets.ensures ∙ ap (λ (e : Edge). e.targets) edge_same)) from leaver

pub returns-else-usable-clause-none : goal.returns-else-usable-clause-none
returns-else-usable-clause-none c =
    let a = c.args.automaton.now in
    let place : EdgePlace = c.args.place in
    let stands : EdgeStandsAt a c.args._number place = c.requires.stands in
    let state : State = c.index-defined-place.result in
    let edge : Edge = c.edge-edge.result in
    let state_same : state ≡ stands.state =
    c.index-defined-place.is ∙ ap (λ (list : List State). get_or list place.state state) c.defined.ensures ∙ state_is a c.args._number place stands state in
    let edge_same : edge ≡ stands.edge =
    c.edge-edge.ensures ∙ ap (λ (s : State). get_or s.edges place.index edge) state_same ∙ edge_is a c.args._number place stands edge in
    λ from next step.
    (let usable : IsUsable (record { source = state; edge = edge }) =
    subst (λ (s : State). IsUsable (record { source = s; edge = edge })) (sym state_same)
    (subst (λ (e : Edge). IsUsable (record { source = stands.state; edge = e })) (sym edge_same)
    (usable_of a c.keeps_limits.ensures c.requires.plain c.args._number place stands from next step)) in
    false≢true (sym c.if-usable.false
    ∙ c.in_ok-usable.ensures.judged.1 (subst (λ (s : State). IsUsable (record { source = s; edge = edge })) (sym c.in_ok-judged_state.ensures.state) usable)))

pub returns-in_err-judged_state-clause-refused : goal.returns-in_err-judged_state-clause-refused
returns-in_err-judged_state-clause-refused c =
    let a = c.args.automaton.now in
    let place : EdgePlace = c.args.place in
    let stands : EdgeStandsAt a c.args._number place = c.requires.stands in
    let state : State = c.index-defined-place.result in
    let state_same : state ≡ stands.state =
    c.index-defined-place.is ∙ ap (λ (list : List State). get_or list place.state state) c.defined.ensures ∙ state_is a c.args._number place stands state in
    passed_on c.from_residual.result _ _ c.from_residual.ensures.1
    (wide_refused (IsHard state.label) (IsHardEdge a c.args._number)
    (λ hard. record {
      edge = record { source = stands.state; edge = stands.edge };
      numbered = stands.numbered;
      hard = inl (subst (λ (s : State). IsHard s.label) state_same hard);
    })
    _ c.in_err-judged_state.ensures.refused)

pub returns-in_err-usable-clause-refused : goal.returns-in_err-usable-clause-refused
returns-in_err-usable-clause-refused c =
    let a = c.args.automaton.now in
    let place : EdgePlace = c.args.place in
    let stands : EdgeStandsAt a c.args._number place = c.requires.stands in
    let state : State = c.index-defined-place.result in
    let edge : Edge = c.edge-edge.result in
    let state_same : state ≡ stands.state =
    c.index-defined-place.is ∙ ap (λ (list : List State). get_or list place.state state) c.defined.ensures ∙ state_is a c.args._number place stands state in
    let edge_same : edge ≡ stands.edge =
    c.edge-edge.ensures ∙ ap (λ (s : State). get_or s.edges place.index edge) state_same ∙ edge_is a c.args._number place stands edge in
    passed_on c.from_residual-in_err-usable.result _ _ c.from_residual-in_err-usable.ensures.1
    (wide_refused (IsHard edge.label) (IsHardEdge a c.args._number)
    (λ hard. record {
      edge = record { source = stands.state; edge = stands.edge };
      numbered = stands.numbered;
      hard = inr (subst (λ (e : Edge). IsHard e.label) edge_same hard);
    })
    _ c.in_err-usable.ensures.refused)
