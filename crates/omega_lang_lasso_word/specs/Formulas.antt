-- What a text over names of propositions says: its truth as a formula. `!` binds closer than `&`, and `&` closer than
-- `|`, as in Spot's formulas.
use Rattle.std.specs.Prelude.{ℕ, ◌&&◌, ◌||◌, not, Bool, true, false, IsTrue, List, ◌++◌, codes}
use Rattle.omega_text.specs.hoa.Forms.{IsQuotable}
use Rattle.omega_lang_lasso_word.specs.Names.{stands_bare}

-- the parts of a formula: what `!` may stand before, what `&` may join, and a whole formula
pub data Part : Type 0 where
  operand : Part
  conjunction : Part
  formula : Part

-- a text is such a part of a formula, and has this truth if the names hold of which `held` says so. It is `0`, `1`, a
-- name, a name in quotes, `!` before an operand, a formula in parentheses, or parts with ` & ` or ` | ` between them
pub data HasTruth (held : List ℕ → Bool) : Part → List ℕ → Bool → Type 0 where
  zero_sign : HasTruth held operand (codes "0") false
  one_sign : HasTruth held operand (codes "1") true
  bare : (name : List ℕ) → IsTrue (stands_bare name) → HasTruth held operand name (held name)
  quoted : (name : List ℕ) → IsQuotable name
      → HasTruth held operand (codes "\"" ++ (name ++ codes "\"")) (held name)
  denied : (text : List ℕ) (value : Bool) → HasTruth held operand text value
      → HasTruth held operand (codes "!" ++ text) (not value)
  enclosed : (text : List ℕ) (value : Bool) → HasTruth held formula text value
      → HasTruth held operand (codes "(" ++ (text ++ codes ")")) value
  one_operand : (text : List ℕ) (value : Bool) → HasTruth held operand text value
      → HasTruth held conjunction text value
  both : (left right : List ℕ) (one other : Bool)
      → HasTruth held conjunction left one → HasTruth held conjunction right other
      → HasTruth held conjunction (left ++ (codes " & " ++ right)) (one && other)
  one_conjunction : (text : List ℕ) (value : Bool) → HasTruth held conjunction text value
      → HasTruth held formula text value
  either : (left right : List ℕ) (one other : Bool) → HasTruth held formula left one
      → HasTruth held formula right other
      → HasTruth held formula (left ++ (codes " | " ++ right)) (one || other)
