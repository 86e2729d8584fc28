-- The edges of states, state by state.
use Rattle.std.proofs.Common.{◌≡◌, ℕ, ◌+◌, ◌<◌, ◌≤◌, List, length, get_or, take, ap, sym, ◌∙◌, arith}
use Rattle.std.specs.List.{flat_map}
use Rattle.std.proofs.lemmas.List.{length-map}
use Rattle.std.proofs.lemmas.List.Folds.{length-flat_map-take}
use Rattle.omega_hoa_automaton.specs.Automaton.{edges_from}
use Rattle.omega_hoa_automaton.specs.declared.state.State.{State}

-- the edges of a state are as many as it has
edges-of-state : (state : State) → length (edges_from state) ≡ length state.edges
edges-of-state state = length-map state.edges _

-- the edges up to one more state are not more than all
pub edges_within : (states : List State) (i : ℕ) (state : State) → i < length states → state ≡ get_or states i state
    → length (flat_map edges_from (take i states)) + length state.edges ≤ length (flat_map edges_from states)
edges_within states i state within is =
    let some = length-flat_map-take edges_from states i state within in
    let here : length (edges_from (get_or states i state)) ≡ length state.edges = ap (λ (s : State). length (edges_from s)) (sym is) ∙ edges-of-state state in
    omega arith
