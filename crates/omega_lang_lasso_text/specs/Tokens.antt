-- The tokens of lasso texts: numbers, and two words.
use Rattle.std.specs.Prelude.{◌≡◌, ℕ, ◌≤◌, List, codes, decimal}
use Rattle.omega_text.specs.Limits.{most_number}
use Rattle.omega_lang_lasso_text.specs.declared.kind.LassoKind.{LassoKind}
use Rattle.omega_lang_lasso_text.specs.declared.kind.LassoKind.TheVariants.{Cycle, Number, Stem}

-- the text is the token of this kind and value: a number is written in decimal without needless zeros,
-- and only numbers have a value
abbrev pub Spells : LassoKind → ℕ → List ℕ → Type 0
Spells Number value text = (value ≤ most_number) × (text ≡ decimal value)
Spells Stem value text = (value ≡ 0) × (text ≡ codes "stem")
Spells Cycle value text = (value ≡ 0) × (text ≡ codes "cycle")
