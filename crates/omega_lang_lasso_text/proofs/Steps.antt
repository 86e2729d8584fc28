-- One token more of a lasso text.
use Rattle.std.proofs.Common.{◌≡◌, Bool, true, false, refl, Result, Ok, Err, IfOk, List, ◌∙◌}
use Rattle.std.specs.Prelude.{◌↔◌, IsTrue}
use Rattle.omega_text.specs.Lexeme.{Lexeme}
use Rattle.omega_text.specs.Reading.{IsWholeOrUnfinished, TakesOrRefuses}
use Rattle.omega_text.specs.Syntax.{TokensBegin, TokensComplete}
use Rattle.omega_text.specs.declared.refusal.Refusal.{Refusal}
use Rattle.omega_lang_lasso_text.specs.Grammar.{lasso_syntax}
use Rattle.omega_lang_lasso_text.specs.Symbols.{lasso_symbol_of}
use Rattle.omega_lang_lasso_text.specs.declared.kind.LassoKind.{LassoKind}
use Rattle.omega_lang_lasso_text.specs.private.Reader.{HasBecome}
use Rattle.omega_lang_lasso_text.specs.private.Reading.{Goes, IsEnded, LassoState, step}
use Rattle.omega_lang_lasso_text.proofs.Deciding.{refused_from_run, run_taken, symbols_of, unfinished_from_run}
use Rattle.omega_lang_lasso_text.proofs.Runs.{lasso_in, text_run}

-- a token that is taken leads on, and one that is refused ends what begins a text
taken_on : (taken : Bool) (start reader next : LassoState) (lexemes : List (Lexeme LassoKind)) (lexeme : Lexeme LassoKind)
    → Goes taken (step reader (lasso_symbol_of lexeme)) next → HasBecome start lexemes reader
    → TakesOrRefuses taken (TokensBegin lasso_syntax) (λ all. HasBecome start all next) lexemes lexeme
taken_on true start reader next lexemes lexeme goes has = run_taken lexemes lexeme reader has ∙ goes
taken_on false start reader next lexemes lexeme goes has = refused_from_run lexemes lexeme reader has goes

-- the same of a call
pub taken_on_all : (result : Result Bool Refusal) (reader next : LassoState) (lexeme : Lexeme LassoKind)
    → IfOk result (λ taken. Goes taken (step reader (lasso_symbol_of lexeme)) next)
    → IfOk result (λ taken. (start : LassoState) (lexemes : List (Lexeme LassoKind)) → HasBecome start lexemes reader
    → TakesOrRefuses taken (TokensBegin lasso_syntax) (λ all. HasBecome start all next) lexemes lexeme)
taken_on_all (Err refusal) reader next lexeme goes = tt
taken_on_all (Ok taken) reader next lexeme goes = λ start lexemes has. taken_on taken start reader next lexemes lexeme goes has

-- tokens that lead to an end are a text, and others are unfinished
pub judged_end : (done : Bool) (start reader : LassoState) (lexemes : List (Lexeme LassoKind)) → IsTrue done ↔ IsEnded reader → HasBecome start lexemes reader
    → IsWholeOrUnfinished done (TokensBegin lasso_syntax) (TokensComplete lasso_syntax) lexemes
judged_end true start reader lexemes ended has = (lasso_in reader, text_run (symbols_of lexemes) reader has (ended.0 refl))
judged_end false start reader lexemes ended has =
    unfinished_from_run lexemes reader has (λ e. (let clash : false ≡ true = ended.1 e in cc))
