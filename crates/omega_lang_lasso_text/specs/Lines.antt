-- The lines that `empty` writes of a lasso, perhaps with one of its word and one of its run: what is read of them.
use Rattle.std.specs.Prelude.{ℕ, ◌<◌, ◌≤◌, ◌||◌, Bool, List, [], ◌∷◌, eqb, length, codes, if◌then◌else◌}
use Rattle.std.specs.List.{starts_with}
use Rattle.omega_text.specs.Cases.{never, or_memory, or_text}
use Rattle.omega_text.specs.Limits.{most_text}
use Rattle.omega_text.specs.Syntax.{IsTextFault}
use Rattle.omega_text.specs.declared.refusal.Refusal.{Refusal}
use Rattle.omega_text.specs.declared.refusal.text.TextFault.{TextFault}
use Rattle.omega_text.specs.declared.refusal.text.TextFault.TheVariants.{TooLong}
use Rattle.omega_lang_lasso_text.specs.Grammar.{lasso_syntax}
use Rattle.omega_lang_lasso_text.specs.Text.{IsLassoText}
use Rattle.omega_lang_lasso_text.specs.declared.lasso.LassoText.{LassoText}

-- a line ends here, and the next one begins with `word ` or `run ` and has the word or the run
abbrev pub ends_lasso : List ℕ → Bool
ends_lasso bytes = starts_with eqb bytes (codes "\nword ") || starts_with eqb bytes (codes "\nrun ")

-- the bytes up to the end of the first line that a line of a word or of a run follows, or all of them
abbrev pub lasso_part : List ℕ → List ℕ
lasso_part [] = []
lasso_part (byte ∷ rest) = if ends_lasso (byte ∷ rest) then byte ∷ [] else byte ∷ lasso_part rest

-- the text is within the limit, and says the lasso before its word and its run
pub record IsLassoLines (source : List ℕ) (lasso : LassoText) : Type 0 where
  pub short : length source ≤ most_text
  pub says : IsLassoText (lasso_part source) lasso

-- the fault of the text: it is above the limit, or what stands before the word and the run has the fault
abbrev pub IsLinesFault : List ℕ → TextFault → Type 0
IsLinesFault source TooLong = most_text < length source
IsLinesFault source fault =
    (length source ≤ most_text) × IsTextFault lasso_syntax (lasso_part source) fault

-- the refusal of the text
abbrev pub IsLassoLinesRefusal : List ℕ → Refusal → Type 0
IsLassoLinesRefusal source = or_text (IsLinesFault source) never

-- the refusals of a call that reads: that of the text, or `Memory`
abbrev pub IsReadLassoLinesRefusal : List ℕ → Refusal → Type 0
IsReadLassoLinesRefusal source = or_memory (IsLassoLinesRefusal source)
