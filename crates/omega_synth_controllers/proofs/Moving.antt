-- Where a deterministic automaton goes from a state at a letter: found by trying the labels of its edges in order.
use Rattle.std.proofs.Common.{◌≡◌, ℕ, zero, suc, ◌+◌, Bool, true, false, if◌then◌else◌, List, [], ◌∷◌, length, slice_get, Some, option_map, refl, sym, ap, subst, ◌∙◌, arith}
use Rattle.std.specs.Prelude.{slice_index_or}
use Rattle.omega_hoa_label.specs.Label.{LabelTree, truth}
use Rattle.omega_hoa_automaton.specs.Automaton.{Description, IsAutomaton}
use Rattle.omega_hoa_automaton.specs.declared.edge.Edge.{Edge}
use Rattle.omega_hoa_automaton.specs.declared.state.State.{State}
use Rattle.omega_hoa_edges.specs.Labels.{label_at, valuation_label}
use Rattle.omega_lang_runs.specs.Lasso.{IsStep}
use Rattle.omega_lang_runs.specs.Laws.{IsIndexLabel}
use Rattle.omega_lang_runs.specs.Words.{CanBeTaken, index_in}
use Rattle.omega_lang_runs.proofs.Taken.{edges_are_taken_where_true}
use Rattle.omega_hoa_edges.specs.AutomatonLabels.{each_by_index, labels_at, state_among, state_at}
use Rattle.omega_hoa_edges.specs.Letters.{AreExclusive}
use Rattle.omega_hoa_edges.proofs.Bits.{both_true, valuation_held, valuation_true}
use Rattle.omega_hoa_edges.proofs.Rows.{each_get}
use Rattle.omega_synth_controllers.proofs.Numbers.{IsFound, edge_found, never_some, same_some, state_is}

module _ (given : ℕ → Edge → LabelTree) (held : ℕ → Bool) where
  -- the target of the first edge whose label is true
  abbrev pub target_of : ℕ → List Edge → ℕ
  target_of index [] = 0
  target_of index (edge ∷ edges) = if truth held (given index edge) then slice_index_or edge.targets 0 0 else target_of (index + 1) edges

  -- if no two labels are true at once, it is the only one
  target_is : (index : ℕ) (edges : List Edge) (k : ℕ) (edge : Edge) (to : ℕ) → AreExclusive (each_by_index given index edges) → slice_get edges k ≡ Some edge
      → truth held (given (index + k) edge) ≡ true → edge.targets ≡ to ∷ [] → target_of index edges ≡ to
  target_is index [] k edge to apart there is enters = absurd (never_some edge there)
  target_is index (first ∷ edges) zero edge to apart there is enters =
      let same : first ≡ edge = same_some first edge there in
      let at : index + 0 ≡ index = omega arith in
      let now : truth held (given index first) ≡ true = ap (λ (e : Edge). truth held (given index e)) same ∙ ap (λ i. truth held (given i edge)) (sym at) ∙ is in
      ap (λ b. if b then slice_index_or first.targets 0 0 else target_of (index + 1) edges) now
      ∙ ap (λ (e : Edge). slice_index_or e.targets 0 0) same ∙ ap (λ (targets : List ℕ). slice_index_or targets 0 0) enters
  target_is index (first ∷ edges) (suc k) edge to apart there is enters =
      go (truth held (given index first)) refl (target_is (index + 1) edges k edge to later_apart there later_is enters)
    where
      at : index + suc k ≡ (index + 1) + k
      at = omega arith

      later_is : truth held (given ((index + 1) + k) edge) ≡ true
      later_is = ap (λ i. truth held (given i edge)) (sym at) ∙ is

      later_apart : AreExclusive (each_by_index given (index + 1) edges)
      later_apart (one, (other, pair, both)) =
          apart (
            one,
            (
              other,
              record { first = suc pair.first; second = suc pair.second; in_order = omega (arith, pair.in_order); first_is = pair.first_is; second_is = pair.second_is },
              both,
            ),
          )

      label_there : slice_get (each_by_index given (index + 1) edges) k ≡ Some (given ((index + 1) + k) edge)
      label_there = each_get given (index + 1) edges k ∙ ap (option_map (given ((index + 1) + k))) there

      go : (b : Bool) → truth held (given index first) ≡ b → target_of (index + 1) edges ≡ to
          → (if truth held (given index first) then slice_index_or first.targets 0 0 else target_of (index + 1) edges) ≡ to
      go true now rest =
          absurd (apart (
            given index first,
            (
              given ((index + 1) + k) edge,
              record { first = 0; second = suc k; in_order = omega arith; first_is = refl; second_is = label_there },
              (held, both_true (truth held (given index first)) (truth held (given ((index + 1) + k) edge)) now later_is),
            ),
          ))
      go false now rest = ap (λ b. if b then slice_index_or first.targets 0 0 else target_of (index + 1) edges) now ∙ rest

-- where the automaton goes from a state at a letter
abbrev pub next_state : Description → ℕ → (ℕ → Bool) → ℕ
next_state a from held = target_of (label_at (length a.propositions) (state_at a from)) held 0 (state_at a from).edges

-- the label of a valuation is one of its index
abbrev index_label : Description → ℕ → LabelTree
index_label a number = valuation_label (index_in a.defined number) (length a.propositions)

is_index_label : (a : Description) (number : ℕ) → IsIndexLabel a number (index_label a number)
is_index_label a number held =
    (valuation_held held (index_in a.defined number) (length a.propositions), valuation_true held (index_in a.defined number) (length a.propositions))

-- each step at the letter leads there
pub leads_there : (a : Description) → IsAutomaton a → (from number to : ℕ) (held : ℕ → Bool) → AreExclusive (labels_at a from) → IsStep a from number to → CanBeTaken a number held
    → next_state a from held ≡ to
leads_there a is_automaton from number to held apart step taken =
    target_is (label_at (length a.propositions) (state_at a from)) held 0 (state_at a from).edges (index_in a.defined number) step.edge.edge to apart there holds step.enters
  where
    found : IsFound a.defined number step.edge
    found = edge_found a.defined number step.edge step.numbered

    source : step.edge.source ≡ state_at a from
    source = sym (state_is a.defined found.place step.edge.source is_automaton.once found.source_is) ∙ ap (state_among a.defined) step.leaves

    there : slice_get (state_at a from).edges (index_in a.defined number) ≡ Some step.edge.edge
    there = subst (λ (s : State). slice_get s.edges (index_in a.defined number) ≡ Some step.edge.edge) source found.edge_is

    first : index_in a.defined number ≡ 0 + index_in a.defined number
    first = omega arith

    holds : truth held (label_at (length a.propositions) (state_at a from) (0 + index_in a.defined number) step.edge.edge) ≡ true
    holds =
        subst (λ i. truth held (label_at (length a.propositions) (state_at a from) i step.edge.edge) ≡ true) first
        (subst (λ (s : State). truth held (label_at (length a.propositions) s (index_in a.defined number) step.edge.edge) ≡ true) source
        ((edges_are_taken_where_true a number step.edge (index_label a number) held step.numbered (is_index_label a number)).0 taken))
