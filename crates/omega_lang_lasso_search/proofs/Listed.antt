-- The edges that a state lists have a target.
use Rattle.std.proofs.Common.{◌≡◌, ◌<◌, ℕ, length, get_or, sym, subst}
use Rattle.omega_hoa_automaton.specs.Automaton.{Description, IsAutomaton, IsState}
use Rattle.omega_hoa_automaton.specs.declared.edge.Edge.{Edge}
use Rattle.omega_hoa_automaton.specs.declared.state.State.{State}

pub listed_targets : (a : Description) → IsAutomaton a → (index : ℕ) (state : State) → index < length a.defined → state ≡ get_or a.defined index state
    → (k : ℕ) (d : Edge) → k < length state.edges → 0 < length (get_or state.edges k d).targets
listed_targets a automaton index state below here k d inside =
    let is : IsState a state = subst (IsState a) (sym here) (automaton.states index state below) in
    (is.edges k d inside).targets.listed
