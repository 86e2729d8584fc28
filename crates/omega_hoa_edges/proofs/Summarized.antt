-- What the summaries of two labels say of both together.
use Rattle.std.proofs.Common.{◌≡◌, ℕ, ◌+◌, ◌<◌, ◌≤◌, Bool, true, false, ◌&&◌, max, List, [], ◌∷◌, ◌++◌, length, get_or, Some, inl, inr, ap, sym, ◌∙◌, arith}
use Rattle.std.specs.List.{slice_get}
use Rattle.std.proofs.lemmas.Bool.{cases_lt}
use Rattle.std.proofs.lemmas.List.{get_or_append_left, get_or_push, length_push}
use Rattle.std.proofs.lemmas.Option.{get_or_from_slice_get, slice_get-get_or, slice_get_within}
use Rattle.omega_hoa_expression.specs.Limits.{most_depth}
use Rattle.omega_hoa_label.specs.Label.{LabelTree, conjunction, label_depth, label_size, truth}
use Rattle.omega_hoa_label.specs.Shape.{FitsALabel}
use Rattle.omega_hoa_satisfiable.specs.Satisfiable.{IsSatisfiable}
use Rattle.omega_hoa_edges.specs.Summaries.{AreSummariesOf, IsSummaryOf}
use Rattle.omega_hoa_edges.specs.declared.summary.LabelSummary.{LabelSummary}
use Rattle.omega_hoa_edges.proofs.Depths.{depth_within}

-- two labels that are less deep and half as large as the limits fit together
pub summaries_fit : (one other : LabelTree) → label_depth one < most_depth → label_depth other < most_depth
    → label_size one < 32768 → label_size other < 32768 → FitsALabel (conjunction one other)
summaries_fit one other shallow shallow' small small' =
    record { shallow = deeper (label_depth one) (label_depth other) shallow shallow'; small = omega (arith, small, small') }
  where
    deeper : (a b : ℕ) → a < most_depth → b < most_depth → max a b + 1 ≤ most_depth
    deeper a b less less' = omega (arith, less, less')

-- a label with fewer atoms and operators than the limit of depths is less deep
pub small_shallow : (tree : LabelTree) (size : ℕ) → size ≡ label_size tree → size < 256 → label_depth tree < most_depth
small_shallow tree size is small = omega (arith, is, small, depth_within tree)

swapped_truth : (a b : Bool) → (a && b) ≡ true → (b && a) ≡ true
swapped_truth true true is = is
swapped_truth true false is = is
swapped_truth false b is = cc

-- two labels can be true together in either order
pub swapped : (one other : LabelTree) → IsSatisfiable (conjunction one other) → IsSatisfiable (conjunction other one)
swapped one other satisfied = (satisfied.0, swapped_truth (truth satisfied.0 one) (truth satisfied.0 other) satisfied.1)

-- one label more has its summary
pub summaries_more : (labels : List LabelTree) (summaries : List LabelSummary) (count : ℕ) (tree : LabelTree) (summary : LabelSummary)
    → AreSummariesOf labels summaries count → slice_get labels count ≡ Some tree → IsSummaryOf tree summary
    → AreSummariesOf labels (summaries ++ summary ∷ []) (count + 1)
summaries_more labels summaries count tree summary are here is = record {
  counted = omega (arith, length_push summaries summary, are.counted);
  known = known;
}
  where
    known : (index : ℕ) (other : LabelTree) (another : LabelSummary) → slice_get labels index ≡ Some other
        → slice_get (summaries ++ summary ∷ []) index ≡ Some another → IsSummaryOf other another
    known index other another at found = elim (cases_lt index (length summaries)) [
      | inl before ↦
          let same : get_or summaries index another ≡ another =
          sym (get_or_append_left summaries (summary ∷ []) another index before)
          ∙ get_or_from_slice_get (summaries ++ summary ∷ []) index another another found in
          are.known index other another at (slice_get-get_or summaries index another before ∙ ap Some same)
      | inr past ↦
          let within = slice_get_within (summaries ++ summary ∷ []) index another found in
          let last : length summaries ≡ index = omega (arith, past, within, length_push summaries summary) in
          let last_summary : another ≡ summary =
          sym (get_or_from_slice_get (summaries ++ summary ∷ []) index another another found) ∙ get_or_push summaries summary another index last in
          let place : index ≡ count = sym last ∙ are.counted in
          let last_tree : Some other ≡ Some tree = sym at ∙ (ap (slice_get labels) place ∙ here) in
          let same_tree : other ≡ tree = cc in
          rw (same_tree, last_summary) is
    ]

-- what stands at a place
pub stands_at : {X : Type 0} (list : List X) (place : ℕ) (item : X) → place < length list → item ≡ get_or list place item → slice_get list place ≡ Some item
stands_at list place item within is = slice_get-get_or list place item within ∙ ap Some (sym is)

-- a label and a summary at one place
pub summary_at : (labels : List LabelTree) (summaries : List LabelSummary) (place : ℕ) (tree : LabelTree) (summary : LabelSummary)
    → AreSummariesOf labels summaries (length labels) → place < length labels → tree ≡ get_or labels place tree
    → summary ≡ get_or summaries place summary → IsSummaryOf tree summary
summary_at labels summaries place tree summary are within at found =
    are.known place tree summary (stands_at labels place tree within at) (stands_at summaries place summary (omega (arith, within, are.counted)) found)
