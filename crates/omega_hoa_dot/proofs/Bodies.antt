-- The edges of a body: their texts state by state, and with the roles of a table.
use Rattle.std.proofs.Common.{◌≡◌, ℕ, ◌+◌, ◌<◌, ◌≤◌, List, [], ◌∷◌, ◌++◌, length, drop, get_or, sym, ap, refl, ◌∙◌, subst, append_assoc, arith, All, length-append}
use Rattle.std.specs.List.{flat_map}
use Rattle.std.proofs.lemmas.List.{drop_more, length-map}
use Rattle.omega_hoa_automaton.specs.Automaton.{BodyEdge, Description, edge_count, edges_from}
use Rattle.omega_hoa_automaton.specs.declared.edge.Edge.{Edge}
use Rattle.omega_hoa_automaton.specs.declared.state.State.{State}
use Rattle.omega_hoa_dot.specs.Arrows.{Drawn, drawn_edge, drawn_from, edge_text, edges_text, state_edges_text}
use Rattle.omega_hoa_dot.specs.EdgeLines.{edge_lines}
use Rattle.omega_hoa_dot.specs.Roles.{role_of}
use Rattle.omega_hoa_dot.specs.declared.role.Role.{Role}
use Rattle.omega_hoa_dot.specs.private.layout.Marking.{AreRoles, role_at}
use Rattle.omega_text.specs.Numbered.{numbered}

-- what holds of each of a list holds of the one at a place
pub at_place : {X : Type 0} (P : X → Type 0) (xs : List X) (index : ℕ) (x : X) → All P xs → index < length xs → x ≡ get_or xs index x → P x
at_place P xs index x all below here = subst P (sym here) (all index x below)

-- the one at a place, and those after it
pub next_left : {X : Type 0} (xs : List X) (index : ℕ) (x : X) → index < length xs → x ≡ get_or xs index x → drop index xs ≡ x ∷ drop (index + 1) xs
next_left xs index x below here = drop_more xs index x below ∙ ap (λ first. first ∷ drop (index + 1) xs) (sym here)

-- part of a text is written, and then the rest of it is left
pub part_written : (part rest left out after whole : List ℕ) → left ≡ part ++ rest → after ≡ out ++ part → out ++ left ≡ whole → after ++ rest ≡ whole
part_written part rest left out after whole parts step so_far =
    ap (λ list. list ++ rest) step ∙ append_assoc out part rest ∙ ap (λ list. out ++ list) (sym parts) ∙ so_far

-- as many edges as the state lists
pub length-edges_from : (state : State) → length (edges_from state) ≡ length state.edges
length-edges_from state = length-map {B = BodyEdge} state.edges (λ (edge : Edge). record { source = state; edge = edge })

-- the edges of a state and of those after it
pub edges_left : (states : List State) (index : ℕ) (state : State) → index < length states → state ≡ get_or states index state
    → length (flat_map edges_from (drop index states)) ≡ length state.edges + length (flat_map edges_from (drop (index + 1) states))
edges_left states index state below here =
    ap (λ left. length (flat_map edges_from left)) (next_left states index state below here)
    ∙ length-append (edges_from state) (flat_map edges_from (drop (index + 1) states))
    ∙ ap (λ n. n + length (flat_map edges_from (drop (index + 1) states))) (length-edges_from state)

module _ (names : List (List ℕ)) (role : ℕ → Role) where
  -- the edges of a state more are written
  pub state_written : (first : ℕ) (states : List State) (index : ℕ) (state : State) (out after whole : List ℕ) → index < length states
      → state ≡ get_or states index state → after ≡ out ++ state_edges_text names role first state
      → out ++ edges_text names role first (drop index states) ≡ whole
      → after ++ edges_text names role (first + length state.edges) (drop (index + 1) states) ≡ whole
  state_written first states index state out after whole below here step so_far =
      part_written (state_edges_text names role first state) (edges_text names role (first + length state.edges) (drop (index + 1) states))
      (edges_text names role first (drop index states)) out after whole
      (ap (edges_text names role first) (next_left states index state below here)) step so_far

  -- the same with roles that are the same number by number
  module _ (other : ℕ → Role) (bound : ℕ) (same : (number : ℕ) → number < bound → role number ≡ other number) where
    same_edge : (first : ℕ) (state : State) (index : ℕ) (edge : Edge) → first + index < bound
        → drawn_edge names role first state index edge ≡ drawn_edge names other first state index edge
    same_edge first state index edge within =
        ap (λ (role : Role). let drawn : Drawn = record {
          role = role;
          number = first + index;
          targets = edge.targets;
          lines = edge_lines names role (first + index) state index edge;
        } in drawn)
        (same (first + index) within)

    same_edges : (first : ℕ) (state : State) (index : ℕ) (edges : List Edge) → first + (index + length edges) ≤ bound
        → drawn_from names role first state index edges ≡ drawn_from names other first state index edges
    same_edges first state index [] within = refl
    same_edges first state index (edge ∷ edges) within =
        ap (λ drawn. drawn ∷ drawn_from names role first state (index + 1) edges) (same_edge first state index edge (omega arith))
        ∙ ap (λ list. drawn_edge names other first state index edge ∷ list) (same_edges first state (index + 1) edges (omega arith))

    pub same_texts : (first : ℕ) (states : List State) → first + length (flat_map edges_from states) ≤ bound
        → edges_text names role first states ≡ edges_text names other first states
    same_texts first [] within = refl
    same_texts first (state ∷ states) within =
        let count : length (flat_map edges_from (state ∷ states)) ≡ length state.edges + length (flat_map edges_from states) =
        length-append (edges_from state) (flat_map edges_from states) ∙ ap (λ n. n + length (flat_map edges_from states)) (length-edges_from state) in
        ap (λ list. numbered (edge_text state.number list) 0 list ++ edges_text names role (first + length state.edges) states)
        (same_edges first state 0 state.edges (omega arith))
        ∙ ap (λ list. state_edges_text names other first state ++ list) (same_texts (first + length state.edges) states (omega arith))

-- edges with the roles of a table are those with their roles in the lasso
pub roles_drawn : (a : Description) (stem cycle : List ℕ) (edges : ℕ) (roles given : List Role) → AreRoles stem cycle edges roles → edges ≡ edge_count a
    → given ≡ roles → edges_text a.propositions (role_at given) 0 a.defined ≡ edges_text a.propositions (role_of stem cycle) 0 a.defined
roles_drawn a stem cycle edges roles given are count is =
    same_texts a.propositions (role_at given) (role_of stem cycle) edges
    (λ number within. ap (λ (list : List Role). role_at list number) is ∙ are.each number within) 0 a.defined (omega (arith, count))
