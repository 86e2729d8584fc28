-- The edges of states in order: of one edge more, and of one state more.
use Rattle.std.proofs.Common.{◌≡◌, ℕ, zero, suc, ◌+◌, ◌<◌, List, [], ◌∷◌, ◌++◌, length, map, take, get_or, sym, ap, ◌∙◌, arith, add-one}
use Rattle.std.specs.List.{flat_map}
use Rattle.std.proofs.lemmas.Grind.{flat_map-append}
use Rattle.std.proofs.lemmas.List.{append-nil, length-map, take_more}
use Rattle.omega_hoa_automaton.specs.Automaton.{BodyEdge, edges_from}
use Rattle.omega_hoa_automaton.specs.declared.edge.Edge.{Edge}
use Rattle.omega_hoa_automaton.specs.declared.state.State.{State}

-- as many edges as the state lists
pub length-edges_from : (state : State) → length (edges_from state) ≡ length state.edges
length-edges_from state = length-map {B = BodyEdge} state.edges (λ (edge : Edge). record { source = state; edge = edge })

take_suc : (state : State) (edges : List Edge) (index : ℕ) (edge : Edge) → index < length edges → edge ≡ get_or edges index edge
    → take (suc index) (map {B = BodyEdge} (λ (edge : Edge). record { source = state; edge = edge }) edges)
    ≡ take index (map {B = BodyEdge} (λ (edge : Edge). record { source = state; edge = edge }) edges) ++ record { source = state; edge = edge } ∷ []
take_suc state [] index edge below here = absurd (omega arith)
take_suc state (x ∷ xs) zero edge below here = ap (λ (e : Edge). record { source = state; edge = e } ∷ []) (sym here)
take_suc state (x ∷ xs) (suc index) edge below here =
    ap (λ (list : List BodyEdge). record { source = state; edge = x } ∷ list) (take_suc state xs index edge (omega arith) here)

-- the edges of a state, one more
pub edges_take : (state : State) (index : ℕ) (edge : Edge) → index < length state.edges → edge ≡ get_or state.edges index edge
    → take (index + 1) (edges_from state) ≡ take index (edges_from state) ++ record { source = state; edge = edge } ∷ []
edges_take state index edge below here =
    ap (λ (n : ℕ). take n (edges_from state)) (add-one index) ∙ take_suc state state.edges index edge below here

-- the edges up to a state and its own
pub flat_more : (states : List State) (index : ℕ) (state : State) → index < length states → state ≡ get_or states index state
    → flat_map edges_from (take (index + 1) states) ≡ flat_map edges_from (take index states) ++ edges_from state
flat_more states index state below here =
    ap (flat_map edges_from) (take_more states index state below ∙ ap (λ s. take index states ++ s ∷ []) (sym here))
    ∙ flat_map-append edges_from (take index states) (state ∷ []) ∙ ap (λ list. flat_map edges_from (take index states) ++ list) (append-nil (edges_from state))
