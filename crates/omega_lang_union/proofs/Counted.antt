-- A union has as many edges as both automata together.
use Rattle.std.proofs.Common.{◌≡◌, ℕ, ◌+◌, List, [], ◌∷◌, ◌++◌, length, ap, ◌∙◌, arith, refl}
use Rattle.std.specs.List.{flat_map}
use Rattle.std.proofs.lemmas.Grind.{flat_map-append}
use Rattle.std.proofs.lemmas.List.{length-append, length-map}
use Rattle.omega_hoa_automaton.specs.Automaton.{Description, edge_count, edges_from}
use Rattle.omega_hoa_automaton.specs.declared.edge.Edge.{Edge}
use Rattle.omega_hoa_automaton.specs.declared.state.State.{State}
use Rattle.omega_lang_union.specs.Parts.{Part, edges_in, state_in, states_in}
use Rattle.omega_lang_union.specs.Union.{first_part, second_part, united}
use Rattle.omega_lang_union.specs.declared.sharing.Sharing.{Sharing}

edges_long : (part : Part) (state : State) (index : ℕ) (edges : List Edge) → length (edges_in part state index edges) ≡ length edges
edges_long part state index [] = refl
edges_long part state index (edge ∷ edges) = let rest = edges_long part state (index + 1) edges in omega (arith, rest)

from_long : (state : State) → length (edges_from state) ≡ length state.edges
from_long state = length-map state.edges (λ (e : Edge). record { source = state; edge = e })

states_long : (part : Part) (states : List State) → length (flat_map edges_from (states_in part states)) ≡ length (flat_map edges_from states)
states_long part [] = refl
states_long part (state ∷ states) =
    let front = length-append (edges_from (state_in part state)) (flat_map edges_from (states_in part states)) in
    let back = length-append (edges_from state) (flat_map edges_from states) in
    let rest = states_long part states in
    omega (arith, front, back, rest, from_long (state_in part state), from_long state, edges_long part state 0 state.edges)

pub edges_of_both : (sharing : Sharing) (one other : Description) → edge_count (united sharing one other) ≡ edge_count one + edge_count other
edges_of_both sharing one other =
    let first : List State = states_in (first_part sharing one other) one.defined in
    let second : List State = states_in (second_part sharing one other) other.defined in
    let split : length (flat_map edges_from first ++ flat_map edges_from second) ≡ length (flat_map edges_from first) + length (flat_map edges_from second) =
    length-append (flat_map edges_from first) (flat_map edges_from second) in
    ap length (flat_map-append edges_from first second) ∙ omega (arith, split, states_long (first_part sharing one other) one.defined, states_long (second_part sharing one other) other.defined)
