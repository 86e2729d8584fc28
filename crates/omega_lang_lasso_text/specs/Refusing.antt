-- Which refusal a lasso text meets: `TooLong`, then `Lex` or `Number` at the least place, then `Syntax`.
use Rattle.std.specs.Prelude.{ℕ, List}
use Rattle.omega_text.specs.Cases.{never, or_memory, or_text}
use Rattle.omega_text.specs.declared.refusal.Refusal.{Refusal}
use Rattle.omega_text.specs.Syntax.{IsTextFault}
use Rattle.omega_lang_lasso_text.specs.Grammar.{lasso_syntax}

-- the refusal of a lasso text
abbrev pub IsLassoRefusal : List ℕ → Refusal → Type 0
IsLassoRefusal source = or_text (IsTextFault lasso_syntax source) never

-- the refusals of a call that reads: that of the text, or `Memory`
abbrev pub IsReadLassoRefusal : List ℕ → Refusal → Type 0
IsReadLassoRefusal source = or_memory (IsLassoRefusal source)
