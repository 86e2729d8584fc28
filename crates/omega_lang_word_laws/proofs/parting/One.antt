-- An automaton has one complement, since what is written of it is one.
use Rattle.std.proofs.Common.{◌≡◌, ℕ, Bool, true, false, List, [], ◌∷◌, ◌++◌, length, Option, Some, None, refl, sym, ap, ap₂, subst, ◌∙◌, true≢false}
use Rattle.std.specs.List.{AllZip, range_with_len}
use Rattle.omega_hoa_label.specs.Writing.{label_written}
use Rattle.omega_hoa_label.specs.Label.{LabelTree}
use Rattle.omega_hoa_label.specs.Raw.{RawLabelTree}
use Rattle.omega_hoa_automaton.specs.Automaton.{Description}
use Rattle.omega_hoa_automaton.specs.Meaning.{Means}
use Rattle.omega_hoa_automaton.proofs.Uniqueness.{meanings_one}
use Rattle.omega_hoa_automaton.specs.declared.state.State.{State}
use Rattle.omega_hoa_syntax.specs.declared.raw_automaton.RawAutomaton.{RawAutomaton}
use Rattle.omega_hoa_syntax.specs.declared.raw_edge.RawEdge.{RawEdge}
use Rattle.omega_hoa_syntax.specs.declared.raw_item.RawItem.{RawItem}
use Rattle.omega_hoa_syntax.specs.declared.raw_state.RawState.{RawState}
use Rattle.omega_hoa_edges.specs.AutomatonLabels.{labels_of, state_at}
use Rattle.omega_lang_complement.specs.Written.{IsMissing, IsTurned, IsWrittenComplement, further_edges, header, sinks, turned_edges}
use Rattle.omega_lang_complement.proofs.Rests.{rest_one}
use Rattle.omega_lang_word_laws.specs.Complements.{ComplementsAreOne}

missing_one : (labels : List LabelTree) (x y : Option RawLabelTree) → IsMissing labels x → IsMissing labels y → x ≡ y
missing_one labels None None one other = refl
missing_one labels None (Some v) one other = absurd (one other.0)
missing_one labels (Some w) None one other = absurd (other one.0)
missing_one labels (Some w) (Some v) one other =
    ap Some (one.1.2 ∙ ap label_written (rest_one labels one.1.0 other.1.0 one.1.1 other.1.1) ∙ sym other.1.2)

state_one : (r s : RawState) → r.label ≡ s.label → r.number ≡ s.number → r.name ≡ s.name → r.marks ≡ s.marks → r.edges ≡ s.edges → r ≡ s
state_one r s label number name marks edges =
    ap {B = RawState} (λ (x : Option RawLabelTree). record r { label = x }) label
    ∙ ap {B = RawState} (λ (x : ℕ). record { label = s.label; number = x; name = r.name; marks = r.marks; edges = r.edges }) number
    ∙ ap {B = RawState} (λ (x : Option (List ℕ)). record { label = s.label; number = s.number; name = x; marks = r.marks; edges = r.edges }) name
    ∙ ap {B = RawState} (λ (x : Option (List ℕ)). record { label = s.label; number = s.number; name = s.name; marks = x; edges = r.edges }) marks
    ∙ ap {B = RawState} (λ (x : List RawEdge). record { label = s.label; number = s.number; name = s.name; marks = s.marks; edges = x }) edges

turned_one : (count sink : ℕ) (state : State) (r s : RawState) → IsTurned count sink state r → IsTurned count sink state s → r ≡ s
turned_one count sink state r s one other =
    state_one r s (one.label ∙ sym other.label) (one.number ∙ sym other.number) (one.name ∙ sym other.name) (one.marks ∙ sym other.marks)
    (one.edges
    ∙ ap (λ (o : Option RawLabelTree). turned_edges count state ++ further_edges sink o) (missing_one (labels_of count state) one.missing other.missing one.is_missing other.is_missing)
    ∙ sym other.edges)

states_one : (a : Description) (ns : List ℕ) (rs ss : List RawState) → AllZip (λ number. IsTurned (length a.propositions) a.states (state_at a number)) ns rs
    → AllZip (λ number. IsTurned (length a.propositions) a.states (state_at a number)) ns ss → rs ≡ ss
states_one a [] [] [] one other = refl
states_one a [] [] (s ∷ ss) one other = absurd other
states_one a [] (r ∷ rs) ss one other = absurd one
states_one a (n ∷ ns) [] ss one other = absurd one
states_one a (n ∷ ns) (r ∷ rs) [] one other = absurd other
states_one a (n ∷ ns) (r ∷ rs) (s ∷ ss) one other =
    ap₂ (λ (x : RawState) (xs : List RawState). x ∷ xs) (turned_one (length a.propositions) a.states (state_at a n) r s one.0 other.0) (states_one a ns rs ss one.1 other.1)

bool_same : (b c : Bool) → (b ≡ true → c ≡ true) → (c ≡ true → b ≡ true) → b ≡ c
bool_same true c there back = sym (there refl)
bool_same false true there back = absurd (true≢false (sym (back refl)))
bool_same false false there back = refl

raw_one : (r s : RawAutomaton) → r.version ≡ s.version → r.items ≡ s.items → r.states ≡ s.states → r ≡ s
raw_one r s version items states =
    ap {B = RawAutomaton} (λ (x : List ℕ). record { version = x; items = r.items; states = r.states }) version
    ∙ ap {B = RawAutomaton} (λ (x : List RawItem). record { version = s.version; items = x; states = r.states }) items
    ∙ ap {B = RawAutomaton} (λ (x : List RawState). record { version = s.version; items = s.items; states = x }) states

written_one : (a : Description) (r s : RawAutomaton) → IsWrittenComplement a r → IsWrittenComplement a s → r ≡ s
written_one a r s one other =
    raw_one r s (one.version ∙ sym other.version) (one.items ∙ ap (header a) sink ∙ sym other.items)
    (one.body ∙ ap₂ (λ (rs : List RawState) (b : Bool). rs ++ sinks a b) (states_one a (range_with_len 0 a.states) one.turned other.turned one.states other.states) sink ∙ sym other.body)
  where
    sink : one.sink ≡ other.sink
    sink = bool_same one.sink other.sink (λ e. other.needed.1 (one.needed.0 e)) (λ e. one.needed.1 (other.needed.0 e))

pub complements_one : ComplementsAreOne
complements_one a c d (raw, written, means) (other, same, meant) =
    meanings_one raw c d means (subst (λ (x : RawAutomaton). Means x d) (written_one a other raw same written) meant)
