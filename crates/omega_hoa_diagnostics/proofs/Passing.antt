-- Edges of a state that are passed over, one more at a time.
use Rattle.std.proofs.Common.{◌≡◌, ℕ, ◌+◌, ◌<◌, ◌≤◌, ◌⊎◌, inl, inr, List, length, get_or, slice_get, Some, refl, sym, ap, subst, ◌∙◌, arith}
use Rattle.std.proofs.lemmas.Bool.{cases_lt}
use Rattle.std.proofs.lemmas.Option.{slice_get_read, slice_get_within}
use Rattle.omega_hoa_label.specs.Label.{LabelTree, conjunction}
use Rattle.omega_hoa_satisfiable.specs.Satisfiable.{IsSatisfiable}
use Rattle.omega_hoa_diagnostics.specs.Choices.{AreAllPassedOver, AreTwoEdges, ComeBefore, IsFirstChoice, IsPassedLabel, IsPassedOver}
use Rattle.omega_hoa_diagnostics.specs.private.Found.{IsSecond}

module _ (labels : List LabelTree) where
  -- an edge is passed over with each at a place below a count
  abbrev pub ArePassedTo : (first count : ℕ) → Type 0
  ArePassedTo first count = (second : ℕ) → second < count → IsPassedOver labels first second

  -- each edge at a place below a count is passed over with all
  abbrev pub ArePassedBelow : ℕ → Type 0
  ArePassedBelow count = (first : ℕ) → first < count → (second : ℕ) → IsPassedOver labels first second

  pub two_edges : (first second : ℕ) (x y : LabelTree) → first < second → second < length labels → x ≡ get_or labels first x → y ≡ get_or labels second y
      → AreTwoEdges labels first second x y
  two_edges first second x y before below here there = record {
    in_order = before;
    first_is = slice_get_read labels (length labels) first x refl (omega (arith, before, below)) here;
    second_is = slice_get_read labels (length labels) second y refl below there;
  }

  same_there : (i : ℕ) (x y : LabelTree) → i < length labels → x ≡ get_or labels i x → slice_get labels i ≡ Some y → x ≡ y
  same_there i x y below here there = same (sym (slice_get_read labels (length labels) i x refl below here) ∙ there)
    where
      same : Some x ≡ Some y → x ≡ y
      same e = cc

  -- an edge is not judged with itself and those before it
  pub passed_before : (first : ℕ) → ArePassedTo first (first + 1)
  passed_before first second below one other edges = absurd (omega (arith, below, edges.in_order))

  -- one more
  pub passed_more : (first second : ℕ) (x y : LabelTree) → first < second → second < length labels → x ≡ get_or labels first x → y ≡ get_or labels second y
      → IsPassedLabel (conjunction x y) → ArePassedTo first second → ArePassedTo first (second + 1)
  passed_more first second x y before below here there passed earlier at within one other edges = go (cases_lt at second)
    where
      go : (at < second) ⊎ (second ≤ at) → IsPassedLabel (conjunction one other)
      go (inl less) = earlier at less one other edges
      go (inr past) =
          let last : second ≡ at = omega arith in
          let left : x ≡ one = same_there first x one (omega (arith, before, below)) here edges.first_is in
          let right : y ≡ other = same_there second y other below there (ap (slice_get labels) last ∙ edges.second_is) in
          subst (λ (l : LabelTree). IsPassedLabel (conjunction l other)) left (subst (λ (r : LabelTree). IsPassedLabel (conjunction x r)) right passed)

  -- all
  pub passed_all : (first count : ℕ) → length labels ≤ count → ArePassedTo first count → (second : ℕ) → IsPassedOver labels first second
  passed_all first count whole passed second one other edges =
      passed second (omega (arith, whole, slice_get_within labels second other edges.second_is)) one other edges

  -- two that can be taken together
  pub second_found : (first second : ℕ) (x y : LabelTree) → first < second → second < length labels → x ≡ get_or labels first x → y ≡ get_or labels second y
      → IsSatisfiable (conjunction x y) → ArePassedTo first second → IsSecond labels first second
  second_found first second x y before below here there letter passed = record {
    together = record { one = x; other = y; edges = two_edges first second x y before below here there; letter = letter };
    before = passed;
  }

  -- the first two, after edges that are passed over with all
  pub choice_found : (first second : ℕ) → IsSecond labels first second → ArePassedBelow first → IsFirstChoice labels first second
  choice_found first second is passed = record { together = is.together; before = go }
    where
      go : (one other : ℕ) → ComeBefore one other first second → IsPassedOver labels one other
      go one other (inl less) = passed one less other
      go one other (inr (same, less)) = subst (λ (n : ℕ). IsPassedOver labels n other) (sym same) (is.before other less)

  -- one edge more is passed over with all
  pub below_more : (first : ℕ) → ((second : ℕ) → IsPassedOver labels first second) → ArePassedBelow first → ArePassedBelow (first + 1)
  below_more first passed earlier at within = go (cases_lt at first)
    where
      go : (at < first) ⊎ (first ≤ at) → (second : ℕ) → IsPassedOver labels at second
      go (inl less) = earlier at less
      go (inr past) = let last : first ≡ at = omega arith in subst (λ (n : ℕ). (second : ℕ) → IsPassedOver labels n second) last passed

  -- all edges are
  pub below_all : (count : ℕ) → length labels ≤ count → ArePassedBelow count → AreAllPassedOver labels
  below_all count whole passed first second one other edges =
      passed first (omega (arith, whole, slice_get_within labels first one edges.first_is)) second one other edges
