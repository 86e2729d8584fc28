-- Edges and states of a part of a union, one more at a time.
use Rattle.std.proofs.Common.{◌≡◌, ℕ, zero, suc, ◌+◌, ◌<◌, List, [], ◌∷◌, ◌++◌, length, get_or, take, Contains, sym, ap, subst, ◌∙◌, arith}
use Rattle.std.proofs.lemmas.List.{length-map, length-take, get_or-map, take_more}
use Rattle.omega_hoa_automaton.specs.declared.edge.Edge.{Edge}
use Rattle.omega_hoa_automaton.specs.declared.state.State.{State}
use Rattle.omega_lang_union.specs.Parts.{Part, edge_in, edges_in, state_in, states_in}

module _ (part : Part) (state : State) where
  edges_on : (index : ℕ) (edges : List Edge) (edge : Edge)
      → edges_in part state index (edges ++ edge ∷ []) ≡ edges_in part state index edges ++ edge_in part state (index + length edges) edge ∷ []
  edges_on index [] edge = let e : index ≡ index + 0 = omega arith in ap (λ (i : ℕ). edge_in part state i edge ∷ []) e
  edges_on index (x ∷ xs) edge =
      let e : (index + 1) + length xs ≡ index + length (x ∷ xs) = omega arith in
      ap (λ (rest : List Edge). edge_in part state index x ∷ rest)
      (edges_on (index + 1) xs edge ∙ ap (λ (i : ℕ). edges_in part state (index + 1) xs ++ edge_in part state i edge ∷ []) e)

  -- an edge more
  pub edges_next : (edges : List Edge) (at : ℕ) (edge : Edge) → at < length edges → edge ≡ get_or edges at edge
      → edges_in part state 0 (take (at + 1) edges) ≡ edges_in part state 0 (take at edges) ++ edge_in part state at edge ∷ []
  edges_next edges at edge below here =
      let long : 0 + length (take at edges) ≡ at = omega (arith, length-take at edges, below) in
      ap (edges_in part state 0) (take_more edges at edge below)
      ∙ ap (λ (e : Edge). edges_in part state 0 (take at edges ++ e ∷ [])) (sym here)
      ∙ edges_on 0 (take at edges) edge
      ∙ ap (λ (i : ℕ). edges_in part state 0 (take at edges) ++ edge_in part state i edge ∷ []) long

  -- an edge of the part is one of its edges
  has_edge : (index : ℕ) (edges : List Edge) (at : ℕ) (edge : Edge) → at < length edges → edge ≡ get_or edges at edge
      → Contains (edges_in part state index edges) (edge_in part state (index + at) edge)
  has_edge index [] at edge below here = absurd (omega arith)
  has_edge index (x ∷ xs) zero edge below here =
      let e : index ≡ index + 0 = omega arith in
      (0, omega arith, ap (edge_in part state index) (sym here) ∙ ap (λ (i : ℕ). edge_in part state i edge) e)
  has_edge index (x ∷ xs) (suc at) edge below here =
      let e : (index + 1) + at ≡ index + suc at = omega arith in
      let rest = subst (λ (i : ℕ). Contains (edges_in part state (index + 1) xs) (edge_in part state i edge)) e (has_edge (index + 1) xs at edge (omega arith) here) in
      (suc rest.0, omega (arith, rest.1), rest.2)

  pub edge_among : (edges : List Edge) (at : ℕ) (edge : Edge) → at < length edges → edge ≡ get_or edges at edge
      → Contains (edges_in part state 0 edges) (edge_in part state at edge)
  edge_among edges at edge below here =
      let e : 0 + at ≡ at = omega arith in
      subst (λ (i : ℕ). Contains (edges_in part state 0 edges) (edge_in part state i edge)) e (has_edge 0 edges at edge below here)

-- a state of the part is one of its states
pub state_among : (part : Part) (states : List State) (at : ℕ) (state : State) → at < length states → state ≡ get_or states at state
    → Contains (states_in part states) (state_in part state)
state_among part states at state below here =
    let long = length-map states (state_in part) in
    (at, omega (arith, long, below), get_or-map (state_in part) states at state (state_in part state) below ∙ ap (state_in part) (sym here))
