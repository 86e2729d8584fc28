-- Edges of states that have one for each valuation of the same propositions: only two of one index can be met.
use Rattle.std.proofs.Common.{◌≡◌, ◌≢◌, ℕ, zero, suc, ◌+◌, ◌<◌, ◌^◌, Bool, true, false, not, ◌&&◌, ◌||◌, List, [], ◌∷◌, length, slice_get, None, Some, refl, sym, ap, ap₂, subst, ◌∙◌, arith}
use Rattle.std.proofs.lemmas.Option.{slice_get_within}
use Rattle.omega_hoa_label.specs.Label.{LabelTree, conjunction, constant, disjunction, negation, proposition, truth}
use Rattle.omega_hoa_label.specs.Renumbering.{number_among, relabelled}
use Rattle.omega_hoa_automaton.specs.declared.edge.Edge.{Edge}
use Rattle.omega_hoa_automaton.specs.declared.state.State.{State}
use Rattle.omega_hoa_edges.specs.Labels.{is_full, valuation_label}
use Rattle.omega_hoa_edges.proofs.Bits.{and_parts, one_index}
use Rattle.omega_hoa_edges.proofs.FullStates.{IsFull, edge_label, full_parts}
use Rattle.omega_hoa_satisfiable.specs.Satisfiable.{IsSatisfiable}
use Rattle.omega_lang_product.specs.Pairs.{can_meet}
use Rattle.omega_lang_product.specs.PlainEdges.{View, plain_edge_of, plain_edges_from}
use Rattle.omega_lang_product.specs.declared.plain_edge.PlainEdge.{PlainEdge}
use Rattle.omega_lang_product.specs.private.Meeting.{AreByValuation, MeetByIndex}
use Rattle.omega_lang_product.specs.private.Tables.{row_of, view_at}
use Rattle.omega_lang_product.proofs.Holding.{can_hold_iff}

-- a label over joined propositions is true where that over its own is
pub truth_relabelled : (places : List ℕ) (held : ℕ → Bool) (label : LabelTree)
    → truth held (relabelled places label) ≡ truth (λ p. held (number_among places p)) label
truth_relabelled places held (constant value) = refl
truth_relabelled places held (proposition number) = refl
truth_relabelled places held (negation part) = ap not (truth_relabelled places held part)
truth_relabelled places held (conjunction left right) = ap₂ ◌&&◌ (truth_relabelled places held left) (truth_relabelled places held right)
truth_relabelled places held (disjunction left right) = ap₂ ◌||◌ (truth_relabelled places held left) (truth_relabelled places held right)

module _ (places : List ℕ) (i j : ℕ) (below : i < 2 ^ length places) (beneath : j < 2 ^ length places) where
  -- valuations whose labels can be true together are one
  one_valuation : IsSatisfiable (conjunction (relabelled places (valuation_label i (length places))) (relabelled places (valuation_label j (length places)))) → i ≡ j
  one_valuation (held, both) =
      let first = relabelled places (valuation_label i (length places)) in
      let second = relabelled places (valuation_label j (length places)) in
      let parts = and_parts (truth held first) (truth held second) both in
      one_index (λ p. held (number_among places p)) (length places) i j below beneath
      (sym (truth_relabelled places held (valuation_label i (length places))) ∙ parts.0)
      (sym (truth_relabelled places held (valuation_label j (length places))) ∙ parts.1)

  apart : (one other : PlainEdge) → one.label ≡ relabelled places (valuation_label i (length places)) → other.label ≡ relabelled places (valuation_label j (length places))
      → i ≢ j → can_meet one other ≡ false
  apart one other first second different = go (can_meet one other) refl
    where
      go : (b : Bool) → can_meet one other ≡ b → b ≡ false
      go false e = refl
      go true e =
          absurd (different (one_valuation (subst (λ (l : LabelTree). IsSatisfiable (conjunction l (relabelled places (valuation_label j (length places))))) first
          (subst (λ (l : LabelTree). IsSatisfiable (conjunction one.label l)) second ((can_hold_iff (conjunction one.label other.label)).0 e)))))

pub by_index : (places : List ℕ) (ones others : List PlainEdge) → AreByValuation places ones → AreByValuation places others → MeetByIndex ones others
by_index places ones others first second index one here = record {
  there = below others second;
  apart = λ place other there different.
      apart places index place (subst (λ n. index < n) first.many (slice_get_within ones index one here))
      (subst (λ n. place < n) second.many (slice_get_within others place other there)) one other (first.labels index one here)
      (second.labels place other there) different;
}
  where
    within : index < 2 ^ length places
    within = subst (λ n. index < n) first.many (slice_get_within ones index one here)

    below : (ts : List PlainEdge) → AreByValuation places ts → index < length ts
    below ts are = subst (λ n. index < n) (sym are.many) within

-- the edges of a state, by their indices
plain_edges_there : (view : View) (state : State) (first : ℕ) (edges : List Edge) (k : ℕ) (plain_edge : PlainEdge) → slice_get (plain_edges_from view state first edges) k ≡ Some plain_edge
    → (edge : Edge) × ((slice_get edges k ≡ Some edge) × (plain_edge ≡ plain_edge_of view state (first + k) edge))
plain_edges_there view state first [] k plain_edge e = absurd (never e)
  where
    never : {X : Type 0} {x : X} → None ≡ Some x → ⊥
    never f = cc
plain_edges_there view state first (edge ∷ edges) zero plain_edge e =
    let last : first ≡ first + 0 = omega arith in
    (edge, (refl, sym (same e) ∙ ap (λ i. plain_edge_of view state i edge) last))
  where
    same : {X : Type 0} {x y : X} → Some x ≡ Some y → x ≡ y
    same f = cc
plain_edges_there view state first (edge ∷ edges) (suc k) plain_edge e =
    let found = plain_edges_there view state (first + 1) edges k plain_edge e in
    let next : (first + 1) + k ≡ first + suc k = omega arith in
    (found.0, (found.1.0, found.1.1 ∙ ap (λ i. plain_edge_of view state i found.0) next))

plain_edges_length : (view : View) (state : State) (first : ℕ) (edges : List Edge) → length (plain_edges_from view state first edges) ≡ length edges
plain_edges_length view state first [] = refl
plain_edges_length view state first (edge ∷ edges) = ap suc (plain_edges_length view state (first + 1) edges)

-- a state that has an edge for each valuation and no labels
pub full_row : (places : List ℕ) (before : ℕ) (state : State) → is_full (length places) state ≡ true → AreByValuation places (row_of (view_at places before) state)
full_row places before state is = record {
  many = plain_edges_length (view_at places before) state 0 state.edges ∙ full.many;
  labels = λ index plain_edge there.
      (let found = plain_edges_there (view_at places before) state 0 state.edges index plain_edge there in
      let first : 0 + index ≡ index = omega arith in
      ap (λ (t : PlainEdge). t.label) (found.1.1 ∙ ap (λ i. plain_edge_of (view_at places before) state i found.0) first) ∙ ap (relabelled places) (edge_label (length places) state index found.0 full found.1.0));
}
  where
    full : IsFull (length places) state
    full = full_parts (length places) state is
