-- Which lasso of identifiers the text of a walk says, and which refusal it meets.
use Rattle.std.specs.Prelude.{ℕ, List}
use Rattle.omega_text.specs.Cases.{or_memory}
use Rattle.omega_text.specs.declared.refusal.Refusal.{Refusal}
use Rattle.omega_lang_lasso_text.specs.Refusing.{IsLassoRefusal}
use Rattle.omega_lang_lasso_text.specs.Text.{IsLassoText}
use Rattle.omega_lang_lasso_text.specs.declared.lasso.LassoText.{LassoText}
use Rattle.omega_answers_walk.specs.Covered.{lasso_in}

-- the text says the lasso: its lasso text does, and that is within the limit
abbrev pub IsWalkText : List ℕ → LassoText → Type 0
IsWalkText source lasso = IsLassoText (lasso_in source) lasso

-- the refusal of the text: that of its lasso text, at the same place
abbrev pub IsWalkTextRefusal : List ℕ → Refusal → Type 0
IsWalkTextRefusal source refusal = IsLassoRefusal (lasso_in source) refusal

-- the refusals of a call that reads: that of the text, or `Memory`
abbrev pub IsReadWalkRefusal : List ℕ → Refusal → Type 0
IsReadWalkRefusal source = or_memory (IsWalkTextRefusal source)
