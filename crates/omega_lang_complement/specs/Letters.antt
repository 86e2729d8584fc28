-- The letters at which no edge of a state can be taken; letters are the sets of propositions that hold at once.
use Rattle.std.specs.Prelude.{◌≡◌, ◌⊎◌, ℕ, suc, Bool, true, false, List, [], ◌∷◌, ◌++◌, length}
use Rattle.std.specs.List.{list_any}
use Rattle.omega_hoa_label.specs.Label.{LabelTree, constant, disjunction, negation, truth}

-- at some letter no edge can be taken
abbrev pub LacksLetter : List LabelTree → Type 0
LacksLetter labels = (held : ℕ → Bool) × (list_any (truth held) labels ≡ false)

-- one label, or the disjunction of two halves of them; the second half is as long as the first or one longer
pub data IsAnyOf : List LabelTree → LabelTree → Type 0 where
  alone : (label : LabelTree) → IsAnyOf (label ∷ []) label
  halves : (left right : List LabelTree) (one other : LabelTree)
      → (length right ≡ length left) ⊎ (length right ≡ suc (length left))
      → IsAnyOf left one → IsAnyOf right other → IsAnyOf (left ++ right) (disjunction one other)

-- the label of the letters at which no edge can be taken: `t` without labels, else the negated disjunction of them all
abbrev pub IsRestLabel : List LabelTree → LabelTree → Type 0
IsRestLabel [] rest = rest ≡ constant true
IsRestLabel (label ∷ labels) rest =
    (any : LabelTree) × IsAnyOf (label ∷ labels) any × (rest ≡ negation any)
