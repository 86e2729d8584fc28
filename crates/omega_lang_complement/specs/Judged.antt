-- The labels of a state that are judged, whether they can be true, and the labels that are written, and whether they
-- fit.
use Rattle.std.specs.Prelude.{◌≡◌, ◌⊎◌, Bool, false, List}
use Rattle.omega_hoa_label.specs.Label.{LabelTree}
use Rattle.omega_hoa_satisfiable.specs.Undecided.{IsHardLabel}
use Rattle.omega_hoa_label.specs.Shape.{FitsALabel}
use Rattle.omega_hoa_edges.specs.Judged.{IsBoth, IsOne}
use Rattle.omega_lang_complement.specs.Letters.{IsRestLabel, LacksLetter}
use Rattle.omega_hoa_edges.specs.Fitting.{FitsAText}

-- a label to be judged of a state without an edge for each valuation: two edges together, or the missing letters
abbrev pub IsJudgedLabel : Bool → List LabelTree → LabelTree → Type 0
IsJudgedLabel full labels label = (full ≡ false) × (IsBoth labels label ⊎ IsRestLabel labels label)

-- a label to be written of a state: that of an edge, or that of the missing letters, if there are some
abbrev pub IsWrittenLabel : List LabelTree → LabelTree → Type 0
IsWrittenLabel labels label = IsOne labels label ⊎ (LacksLetter labels × IsRestLabel labels label)

-- the label of the missing letters is too deep or too large
abbrev pub HasLargeRest : List LabelTree → Type 0
HasLargeRest labels = (label : LabelTree) × IsRestLabel labels label × (FitsALabel label → ⊥)

-- each label to be judged is neither too deep nor too large
abbrev pub JudgedFit : Bool → List LabelTree → Type 0
JudgedFit full labels = (label : LabelTree) → IsJudgedLabel full labels label → FitsALabel label

-- the label of the missing letters is neither too deep nor too large
abbrev pub RestFits : List LabelTree → Type 0
RestFits labels = (label : LabelTree) → IsRestLabel labels label → FitsALabel label

-- if letters are missing, their label can be written with the parentheses that it needs
abbrev pub RestFitsAText : List LabelTree → Type 0
RestFitsAText labels =
    LacksLetter labels → (label : LabelTree) → IsRestLabel labels label → FitsAText label

-- the labels to be judged are neither too deep nor too large, nor are those to be written with the parentheses that
-- they need
pub record AreFitting (full : Bool) (labels : List LabelTree) : Type 0 where
  pub judged : JudgedFit full labels
  pub written : (label : LabelTree) → IsWrittenLabel labels label → FitsAText label

-- a label to be judged may be left undecided
abbrev pub HasUndecidedJudged : Bool → List LabelTree → Type 0
HasUndecidedJudged full labels =
    (label : LabelTree) × IsJudgedLabel full labels label × IsHardLabel label

-- a label to be judged, or one to be written with its parentheses, is too deep or too large
abbrev pub HasLargeJudged : Bool → List LabelTree → Type 0
HasLargeJudged full labels =
    ((label : LabelTree) × IsJudgedLabel full labels label × (FitsALabel label → ⊥))
    ⊎ ((label : LabelTree) × IsWrittenLabel labels label × (FitsAText label → ⊥))
