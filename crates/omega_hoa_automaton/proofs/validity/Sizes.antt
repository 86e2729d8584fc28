-- Faults 28 and 33: numbers of states and tree nodes of labels are those of what is written.
use Rattle.std.proofs.Common.{◌≡◌, ℕ, ◌+◌, List, [], ◌∷◌, map, sum_by, Option, Some, None, refl, ap, sym, ◌∙◌}
use Rattle.std.specs.List.{AllZip}
use Rattle.std.proofs.lemmas.List.Sums.{sum_by-cons}
use Rattle.omega_hoa_label_text.specs.Expanding.{Defined, expansion}
use Rattle.omega_hoa_label.specs.Label.{LabelTree}
use Rattle.omega_hoa_label.specs.Raw.{RawLabelTree}
use Rattle.omega_hoa_syntax.specs.declared.raw_state.RawState.{RawState}
use Rattle.omega_hoa_automaton.specs.Automaton.{size_of, total_size}
use Rattle.omega_hoa_automaton.specs.Faults.{label_total, size_under}
use Rattle.omega_hoa_automaton.specs.Meaning.{IsEdgeOf, IsLabelOf, IsStateOf}
use Rattle.omega_hoa_automaton.specs.declared.state.State.{State}
use Rattle.omega_hoa_automaton.proofs.validity.Labels.{tree_size}

-- two sums are one if their items are related one by one, and such items have one size
sums_same : {A B : Type 0} (R : A → B → Type 0) (f : A → ℕ) (g : B → ℕ) → ((a : A) (b : B) → R a b → g b ≡ f a)
    → (as_ : List A) (bs : List B) → AllZip R as_ bs → sum_by g bs ≡ sum_by f as_
sums_same R f g each [] [] zip = refl
sums_same R f g each [] (b ∷ bs) zip = absurd zip
sums_same R f g each (a ∷ as_) [] zip = absurd zip
sums_same R f g each (a ∷ as_) (b ∷ bs) zip =
    sum_by-cons g b bs
    ∙ (ap (λ n. n + sum_by g bs) (each a b zip.0)
    ∙ (ap (λ n. f a + n) (sums_same R f g each as_ bs zip.1)
    ∙ sym (sum_by-cons f a as_)))

-- the tree nodes of a label
label_same : (definitions : List Defined) (raw : Option RawLabelTree) (label : Option LabelTree)
    → IsLabelOf definitions raw label → size_of label ≡ size_under definitions raw
label_same definitions None None is = refl
label_same definitions None (Some label) is = absurd is
label_same definitions (Some raw) None is = absurd is
label_same definitions (Some raw) (Some label) is = sym (tree_size (expansion definitions raw) label is.tree_is)

-- of the labels of a state and its edges
state_same : (definitions : List Defined) (raw : RawState) (state : State) → IsStateOf definitions raw state → total_size state ≡ label_total definitions raw
state_same definitions raw state is =
    let edges = sums_same (IsEdgeOf definitions) (λ edge. size_under definitions edge.label) (λ edge. size_of edge.label)
    (λ raw edge of. label_same definitions raw.label edge.label of.label) raw.edges state.edges is.edges in
    ap (λ n. n + sum_by (λ edge. size_of edge.label) state.edges) (label_same definitions raw.label state.label is.label)
    ∙ ap (λ n. size_under definitions raw.label + n) edges

-- of all labels
pub totals_same : (definitions : List Defined) (raws : List RawState) (states : List State) → AllZip (IsStateOf definitions) raws states
    → sum_by total_size states ≡ sum_by (label_total definitions) raws
totals_same definitions raws states zip = sums_same (IsStateOf definitions) (label_total definitions) total_size (state_same definitions) raws states zip

-- the numbers of the states
pub numbers_same : (definitions : List Defined) (raws : List RawState) (states : List State) → AllZip (IsStateOf definitions) raws states
    → map (λ (state : State). state.number) states ≡ map (λ (raw : RawState). raw.number) raws
numbers_same definitions [] [] zip = refl
numbers_same definitions [] (state ∷ states) zip = absurd zip
numbers_same definitions (raw ∷ raws) [] zip = absurd zip
numbers_same definitions (raw ∷ raws) (state ∷ states) zip =
    ap (λ n. n ∷ map (λ (state : State). state.number) states) zip.0.number ∙ ap (λ ns. raw.number ∷ ns) (numbers_same definitions raws states zip.1)
