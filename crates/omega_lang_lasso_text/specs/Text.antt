-- Which lasso a text says.
use Rattle.std.specs.Prelude.{ℕ, ◌≤◌, List, length}
use Rattle.omega_text.specs.Limits.{most_text}
use Rattle.omega_text.specs.Syntax.{IsTextOf}
use Rattle.omega_lang_lasso_text.specs.Grammar.{lasso_syntax}
use Rattle.omega_lang_lasso_text.specs.declared.lasso.LassoText.{LassoText}

-- the text is within the limit and says the lasso
pub record IsLassoText (source : List ℕ) (lasso : LassoText) : Type 0 where
  pub short : length source ≤ most_text
  pub writes : IsTextOf lasso_syntax source lasso
