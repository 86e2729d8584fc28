-- A reader that takes all tokens, and why it may be refused.
use Rattle.std.proofs.Common.{◌≡◌, ℕ, ◌≤◌, Bool, true, false, Result, Ok, Err, IfErr, IfOk, IsOkUnless, OnOk, List, [], ◌∷◌, ◌++◌, fold, length, map, refl, ap, sym, ◌∙◌}
use Rattle.omega_pg_diagnostics.specs.private.AnyText.{any_syntax}
use Rattle.omega_pg.specs.Symbols.{PgSymbol, pg_symbol_of}
use Rattle.omega_text.specs.Lexeme.{Lexeme}
use Rattle.omega_text.specs.Limits.{most_text}
use Rattle.omega_text.specs.Reading.{IsReadingRefusal, IsWholeOrUnfinished, TakesOrRefuses}
use Rattle.omega_text.specs.Syntax.{IsTextOf, TextsHaveNoFault, TokensBegin, TokensComplete}
use Rattle.omega_text.specs.pg.Format.{pg_format}
use Rattle.omega_text.specs.declared.pg.kind.PgKind.{PgKind}
use Rattle.omega_text.specs.declared.refusal.Refusal.{Refusal}
use Rattle.omega_text.specs.declared.refusal.Refusal.TheVariants.{Automaton, Circuit, Game, Io, Memory, Task, Text}

-- one token more is one step more
run_more : {State : Type 0} (step : State → PgSymbol → State) (start : State) (lexemes : List (Lexeme PgKind)) (lexeme : Lexeme PgKind)
    → fold step start (map pg_symbol_of (lexemes ++ lexeme ∷ [])) ≡ step (fold step start (map pg_symbol_of lexemes)) (pg_symbol_of lexeme)
run_more step start [] lexeme = refl
run_more step start (first ∷ lexemes) lexeme = run_more step (step start (pg_symbol_of first)) lexemes lexeme

-- a token that is taken leads on
pub taken_on : {State : Type 0} (step : State → PgSymbol → State) (result : Result Bool Refusal) (old new : State) (lexeme : Lexeme PgKind)
    → OnOk result (new ≡ step old (pg_symbol_of lexeme)) → IfOk result (λ taken. taken ≡ true)
    → IfOk result (λ taken. (start : State) (lexemes : List (Lexeme PgKind)) → old ≡ fold step start (map pg_symbol_of lexemes)
    → TakesOrRefuses taken (TokensBegin any_syntax) (λ all. new ≡ fold step start (map pg_symbol_of all)) lexemes lexeme)
taken_on step (Ok true) old new lexeme stepped taken = λ start lexemes before.
    stepped ∙ ap (λ state. step state (pg_symbol_of lexeme)) before ∙ sym (run_more step start lexemes lexeme)
taken_on step (Ok false) old new lexeme stepped taken = absurd (cc)
taken_on step (Err refusal) old new lexeme stepped taken = tt

-- all tokens are a text
pub always_whole : (whole : Bool) (lexemes : List (Lexeme PgKind)) → whole ≡ true
    → IsWholeOrUnfinished whole (TokensBegin any_syntax) (TokensComplete any_syntax) lexemes
always_whole true lexemes e = (tt, tt)
always_whole false lexemes e = absurd (cc)

-- a text that can be cut into tokens is refused for want of memory alone
pub only_memory : {A : Type 0} (result : Result A Refusal) (source : List ℕ) → TextsHaveNoFault any_syntax → length source ≤ most_text
    → IsTextOf any_syntax source tt → IfErr result (IsReadingRefusal pg_format (TokensBegin any_syntax) (TokensComplete any_syntax) source)
    → IsOkUnless result Memory
only_memory (Ok value) source law short text why = tt
only_memory (Err (Text fault)) source law short text why = absurd (law source tt fault short text why)
only_memory (Err (Game fault)) source law short text why = absurd why
only_memory (Err (Automaton fault)) source law short text why = absurd why
only_memory (Err (Circuit fault)) source law short text why = absurd why
only_memory (Err (Task fault)) source law short text why = absurd why
only_memory (Err Memory) source law short text why = refl
only_memory (Err Io) source law short text why = absurd why
