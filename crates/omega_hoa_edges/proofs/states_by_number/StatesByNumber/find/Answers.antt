-- the state at the place of the number
use Rattle.std.proofs.Common.{◌≡◌, List, get_or, sym, subst}
use Rattle.omega_hoa_automaton.specs.Automaton.{Description}
use Rattle.omega_hoa_automaton.specs.declared.state.State.{State}
use Rattle.omega_hoa_edges.specs.AutomatonLabels.{state_at, undefined}
use Rattle.omega_hoa_edges.proofs.StateNumbers.{state_missing, state_placed}
use Rattle.omega_hoa_edges.proofs.states_by_number.StatesByNumber.find.Goals as goal

pub returns-in-Some-clause-some : goal.returns-in-Some-clause-some
returns-in-Some-clause-some c =
    let inside = c.self.inside in
    subst (λ (a : Description). c.index-defined-place.result ≡ state_at a c.args.number) c.self.view_is
    (state_placed inside.automaton.now.defined inside.numbers.keys c.args.number c.in-Some.place c.index-defined-place.result c.self.invariant
    (sym c.in-Some.ensures.index)
    (subst (λ (ss : List State). c.index-defined-place.result ≡ get_or ss c.in-Some.place c.index-defined-place.result) c.defined.ensures
    c.index-defined-place.is))

pub returns-in-None-clause-none : goal.returns-in-None-clause-none
returns-in-None-clause-none c =
    let inside = c.self.inside in
    subst (λ (a : Description). state_at a c.args.number ≡ undefined c.args.number) c.self.view_is
    (state_missing inside.automaton.now.defined inside.numbers.keys c.args.number c.self.invariant (sym c.in-None.ensures.index))
