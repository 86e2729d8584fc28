-- The edges of a state of a part, by their indices, and their labels.
use Rattle.std.proofs.Common.{◌≡◌, ℕ, zero, suc, ◌+◌, List, [], ◌∷◌, length, slice_get, Option, Some, None, option_map, if◌then◌else◌, unwrap_or, refl, sym, ap, ◌∙◌, arith}
use Rattle.std.specs.Prelude.{is_some}
use Rattle.std.specs.Option.{option_or}
use Rattle.omega_hoa_label.specs.Label.{LabelTree}
use Rattle.omega_hoa_automaton.specs.declared.edge.Edge.{Edge}
use Rattle.omega_hoa_automaton.specs.declared.state.State.{State}
use Rattle.omega_hoa_edges.specs.Labels.{label_at, valuation_label}
use Rattle.omega_lang_product.specs.Joining.{relabelled}
use Rattle.omega_lang_union.specs.Parts.{Part, edge_in, edges_in, state_in}
use Rattle.omega_lang_word_laws.proofs.meeting.Lists.{same_some}

nothing_there : (k : ℕ) (edge : Edge) → slice_get {X = Edge} [] k ≡ Some edge → ⊥
nothing_there zero edge e = cc
nothing_there (suc k) edge e = cc

module _ (part : Part) (state : State) where
  -- each edge is there
  edge_from_index : (index k : ℕ) (edges : List Edge) (edge : Edge) → slice_get edges k ≡ Some edge → slice_get (edges_in part state index edges) k ≡ Some (edge_in part state (index + k) edge)
  edge_from_index index k [] edge at = absurd (nothing_there k edge at)
  edge_from_index index zero (x ∷ edges) edge at =
      let e : index ≡ index + 0 = omega arith in
      ap (λ (y : Edge). Some (edge_in part state index y)) (same_some x edge at) ∙ ap (λ (i : ℕ). Some (edge_in part state i edge)) e
  edge_from_index index (suc k) (x ∷ edges) edge at =
      let e : (index + 1) + k ≡ index + suc k = omega arith in
      edge_from_index (index + 1) k edges edge at ∙ ap (λ (i : ℕ). Some (edge_in part state i edge)) e

  pub edge_there : (k : ℕ) (edge : Edge) → slice_get state.edges k ≡ Some edge → slice_get (state_in part state).edges k ≡ Some (edge_in part state k edge)
  edge_there k edge at =
      let e : 0 + k ≡ k = omega arith in
      edge_from_index 0 k state.edges edge at ∙ ap (λ (i : ℕ). Some (edge_in part state i edge)) e

  -- and no other
  record IsFrom (index k : ℕ) (edges : List Edge) (edge : Edge) : Type 0 where
    pub old : Edge
    pub at : slice_get edges k ≡ Some old
    pub is : edge ≡ edge_in part state (index + k) old

  from_index : (index k : ℕ) (edges : List Edge) (edge : Edge) → slice_get (edges_in part state index edges) k ≡ Some edge → IsFrom index k edges edge
  from_index index k [] edge at = absurd (nothing_there k edge at)
  from_index index zero (x ∷ edges) edge at =
      let e : index ≡ index + 0 = omega arith in
      record { old = x; at = refl; is = sym (same_some (edge_in part state index x) edge at) ∙ ap (λ (i : ℕ). edge_in part state i x) e }
  from_index index (suc k) (x ∷ edges) edge at =
      let e : (index + 1) + k ≡ index + suc k = omega arith in
      let rest : IsFrom (index + 1) k edges edge = from_index (index + 1) k edges edge at in
      record { old = rest.old; at = rest.at; is = rest.is ∙ ap (λ (i : ℕ). edge_in part state i rest.old) e }

  pub record IsEdgeFrom (k : ℕ) (edge : Edge) : Type 0 where
    pub old : Edge
    pub at : slice_get state.edges k ≡ Some old
    pub is : edge ≡ edge_in part state k old

  pub edge_from : (k : ℕ) (edge : Edge) → slice_get (state_in part state).edges k ≡ Some edge → IsEdgeFrom k edge
  edge_from k edge at =
      let e : 0 + k ≡ k = omega arith in
      let from : IsFrom 0 k state.edges edge = from_index 0 k state.edges edge at in
      record { old = from.old; at = from.at; is = from.is ∙ ap (λ (i : ℕ). edge_in part state i from.old) e }

  -- its label is the one over the joined propositions
  labelled : (own given : Option LabelTree) (valuation other : LabelTree)
      → unwrap_or (option_or (option_map (relabelled part.places) own) (if is_some own then None else Some (relabelled part.places (unwrap_or (option_or own given) valuation)))) other
      ≡ relabelled part.places (unwrap_or (option_or own given) valuation)
  labelled None given valuation other = refl
  labelled (Some label) given valuation other = refl

  pub label_same : (count k : ℕ) (edge : Edge) → label_at count (state_in part state) k (edge_in part state k edge) ≡ relabelled part.places (label_at (length part.places) state k edge)
  label_same count k edge = labelled state.label edge.label (valuation_label k (length part.places)) (valuation_label k count)
