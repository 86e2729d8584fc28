-- Labels that are judged and fit, and their alternatives.
use Rattle.std.proofs.Common.{◌≡◌, ℕ, suc, ◌+◌, ◌-◌, ◌/◌, ◌<◌, ◌≤◌, ◌⊎◌, inl, inr, Bool, List, [], ◌∷◌, length, take, drop, get_or, sym, subst, arith}
use Rattle.std.specs.List.{All}
use Rattle.std.proofs.lemmas.Bool.{cases_lt}
use Rattle.std.proofs.lemmas.List.Elements.{All-contains}
use Rattle.std.proofs.lemmas.List.{length-drop, length-take, take-append-drop}
use Rattle.std.proofs.lemmas.Option.{get_or_from_slice_get, slice_get_within}
use Rattle.omega_hoa_label.specs.Label.{LabelTree, disjunction}
use Rattle.omega_hoa_label.specs.Shape.{FitsALabel}
use Rattle.omega_lang_complement.specs.Judged.{AreFitting, IsJudgedLabel, IsWrittenLabel}
use Rattle.omega_hoa_edges.specs.Judged.{IsBoth, IsOne}
use Rattle.omega_lang_complement.specs.Letters.{IsAnyOf, IsRestLabel, LacksLetter, alone, halves}
use Rattle.omega_hoa_edges.specs.Fitting.{FitsAText}

-- what all labels are each is
pub each_one : (P : LabelTree → Type 0) (labels : List LabelTree) → All P labels → (label : LabelTree) → IsOne labels label → P label
each_one P labels all label (index, is) =
    All-contains P labels label all (index, slice_get_within labels index label is, get_or_from_slice_get labels index label label is)

module _ (full : Bool) (labels : List LabelTree) where
  -- labels that are judged fit, where both of two do and the rest does
  pub judged_fit : ((label : LabelTree) → IsBoth labels label → FitsALabel label) → ((label : LabelTree) → IsRestLabel labels label → FitsALabel label)
      → (label : LabelTree) → IsJudgedLabel full labels label → FitsALabel label
  judged_fit both rest label (other, inl is) = both label is
  judged_fit both rest label (other, inr is) = rest label is

  -- and all fit, where each that is written does
  pub all_fitting : ((label : LabelTree) → IsJudgedLabel full labels label → FitsALabel label)
      → (LacksLetter labels → (label : LabelTree) → IsRestLabel labels label → FitsAText label) → All FitsAText labels → AreFitting full labels
  all_fitting judged rest all = record { judged = judged; written = go }
    where
      go : (label : LabelTree) → IsWrittenLabel labels label → FitsAText label
      go label (inl one) = each_one FitsAText labels all label one
      go label (inr (lacks, is)) = rest lacks label is

-- the alternative of one label is the label
pub any_of_one : (labels : List LabelTree) (x : LabelTree) → length labels ≡ 1 → x ≡ get_or labels 0 x → IsAnyOf labels x
any_of_one [] x long here = absurd (omega (arith, long))
any_of_one (l ∷ []) x long here = subst (λ (y : LabelTree). IsAnyOf (l ∷ []) y) (sym here) (alone l)
any_of_one (l ∷ m ∷ labels) x long here = absurd (omega (arith, long))

-- the alternative of two halves
pub any_of_halves : (labels : List LabelTree) (middle : ℕ) (x y : LabelTree) → middle ≡ length labels / 2 → IsAnyOf (take middle labels) x → IsAnyOf (drop middle labels) y
    → IsAnyOf labels (disjunction x y)
any_of_halves labels middle x y is left right =
    subst (λ (ls : List LabelTree). IsAnyOf ls (disjunction x y)) (take-append-drop middle labels)
    (halves (take middle labels) (drop middle labels) x y (even (cases_lt (middle + middle) (length labels))) left right)
  where
    few : middle ≤ length labels
    few = omega (arith, is)

    front : length (take middle labels) ≡ middle
    front = omega (arith, length-take middle labels, few)

    back : length (drop middle labels) ≡ length labels - middle
    back = length-drop middle labels

    even : (middle + middle < length labels) ⊎ (length labels ≤ middle + middle)
        → (length (drop middle labels) ≡ length (take middle labels)) ⊎ (length (drop middle labels) ≡ suc (length (take middle labels)))
    even (inl less) = inr (omega (arith, is, front, back, less))
    even (inr past) = inl (omega (arith, is, front, back, past))
