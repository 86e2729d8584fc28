-- A state that has an edge for each valuation and no labels lacks no letter.
use Rattle.std.proofs.Common.{◌≡◌, ℕ, ◌<◌, true, [], get_or, slice_get, Some, None, sym, ap, subst, ◌∙◌, true≢false}
use Rattle.std.proofs.lemmas.Option.{slice_get-get_or}
use Rattle.omega_hoa_label.specs.Label.{truth}
use Rattle.omega_hoa_automaton.specs.declared.edge.Edge.{Edge}
use Rattle.omega_hoa_automaton.specs.declared.state.State.{State}
use Rattle.omega_hoa_edges.specs.AutomatonLabels.{labels_of}
use Rattle.omega_lang_complement.specs.Letters.{LacksLetter}
use Rattle.omega_hoa_edges.proofs.FullStates.{IsFull, edge_label, full_parts}
use Rattle.omega_hoa_edges.proofs.Bits.{index_of, valuation_true}
use Rattle.omega_hoa_edges.proofs.Rows.{each_there}
use Rattle.omega_hoa_edges.proofs.Full.{any_at}
use Rattle.omega_hoa_edges.specs.Labels.{is_full, label_at}

pub full_lacks_none : (count : ℕ) (state : State) → is_full count state ≡ true → LacksLetter (labels_of count state) → ⊥
full_lacks_none count state is (held, none) = true≢false (sym (any_at (truth held) (labels_of count state) k (label_at count state k edge) there true_there) ∙ none)
  where
    full : IsFull count state
    full = full_parts count state is

    k : ℕ
    k = (index_of held count).0

    edge : Edge
    edge = get_or state.edges k (record { label = None; targets = []; marks = [] })

    at : slice_get state.edges k ≡ Some edge
    at = slice_get-get_or state.edges k (record { label = None; targets = []; marks = [] }) (subst (λ n. k < n) (sym full.many) (index_of held count).1.0)

    there : slice_get (labels_of count state) k ≡ Some (label_at count state k edge)
    there = each_there (label_at count state) state.edges k edge at

    true_there : truth held (label_at count state k edge) ≡ true
    true_there = ap (truth held) (edge_label count state k edge full at) ∙ valuation_true held k count (index_of held count).1.1
