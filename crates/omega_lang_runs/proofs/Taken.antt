-- At which valuations an edge can be taken: those at which its label is true.
use Rattle.std.proofs.Common.{◌≡◌, ◌↔◌, ℕ, Bool, true, Option, Some, None, sym, subst, ◌∙◌}
use Rattle.std.specs.Option.{unwrap_or}
use Rattle.omega_hoa_label.specs.Label.{LabelTree, truth}
use Rattle.omega_hoa_automaton.specs.Automaton.{BodyEdge, Description}
use Rattle.omega_lang_runs.specs.Lasso.{label_of}
use Rattle.omega_lang_runs.specs.Laws.{EdgesAreTakenWhereTrue, IsIndexLabel}
use Rattle.omega_lang_runs.specs.Words.{Allows}

-- a label, or none, allows the propositions at which it is true, or at which a label of the index is
pub allows_where_true : (a : Description) (number : ℕ) (index_label : LabelTree) → IsIndexLabel a number index_label
    → (label : Option LabelTree) (held : ℕ → Bool) → Allows a number label held ↔ (truth held (unwrap_or label index_label) ≡ true)
allows_where_true a number index_label of_index None held = ((of_index held).1, (of_index held).0)
allows_where_true a number index_label of_index (Some label) held = (λ is. is, λ is. is)

pub edges_are_taken_where_true : EdgesAreTakenWhereTrue
edges_are_taken_where_true a number edge index_label held stands of_index = (
  λ taken. (let same : taken.edge ≡ edge = same_some taken.edge edge (sym taken.numbered ∙ stands) in
      (allows_where_true a number index_label of_index (label_of edge) held).0
      (subst (λ (e : BodyEdge). Allows a number (label_of e) held) same taken.allowed)),
  λ is. record {
    edge = edge;
    numbered = stands;
    allowed = (allows_where_true a number index_label of_index (label_of edge) held).1 is;
  },
)
  where
    same_some : (x y : BodyEdge) → Some x ≡ Some y → x ≡ y
    same_some x y e = cc
