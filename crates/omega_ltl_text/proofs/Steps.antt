-- One token more of a formula.
use Rattle.std.proofs.Common.{◌≡◌, Bool, true, false, refl, Result, Ok, Err, IfOk, List, [], ◌∷◌, Some, None}
use Rattle.std.proofs.Common.{◌⊎◌, inl, inr, ap, sym, ◌∙◌, subst}
use Rattle.std.specs.Prelude.{◌↔◌, IsSome, IsTrue}
use Rattle.std.proofs.lemmas.List.{map-append}
use Rattle.omega_text.specs.Lexeme.{Lexeme}
use Rattle.omega_text.specs.Reading.{IsWholeOrUnfinished, TakesOrRefuses}
use Rattle.omega_text.specs.Syntax.{TokensBegin, TokensComplete}
use Rattle.omega_text.specs.declared.refusal.Refusal.{Refusal}
use Rattle.omega_ltl_formula.specs.Formula.{FormulaTree}
use Rattle.omega_ltl_text.specs.Grammar.{formula_syntax}
use Rattle.omega_ltl_text.specs.Symbols.{formula_symbol_of}
use Rattle.omega_ltl_text.specs.declared.kind.FormulaKind.{FormulaKind}
use Rattle.omega_ltl_text.specs.private.Reader.{Goes, HasBecome, ReaderState, name_in, names_after, state_of}
use Rattle.omega_ltl_text.specs.private.Reader.{with_some}
use Rattle.omega_ltl_text.specs.private.Reading.{ReadState, ended, initial, run}
use Rattle.omega_ltl_text.proofs.Deciding.{ends, names_push, refused_from_run, run_taken, symbols_of}
use Rattle.omega_ltl_text.proofs.Deciding.{unfinished_from_run}
use Rattle.omega_ltl_text.proofs.Unwinding.{run_spells}

-- a token that is taken leads on, and one that is refused ends what begins a text
taken_on : (taken : Bool) (start reader next : ReaderState) (lexemes : List (Lexeme FormulaKind)) (lexeme : Lexeme FormulaKind)
    → Goes taken reader (formula_symbol_of lexeme) next → HasBecome start lexemes reader
    → TakesOrRefuses taken (TokensBegin formula_syntax) (λ all. HasBecome start all next) lexemes lexeme
taken_on true start reader next lexemes lexeme goes has = record {
  runs = run_taken lexemes lexeme (state_of reader) has.runs ∙ goes.0;
  names = goes.1
      ∙ (ap (λ names. with_some names (name_in (formula_symbol_of lexeme))) has.names
      ∙ (sym (names_push [] (symbols_of lexemes) (formula_symbol_of lexeme))
      ∙ ap (names_after []) (sym (map-append formula_symbol_of lexemes (lexeme ∷ [])))));
  few = goes.2 has.few;
}
taken_on false start reader next lexemes lexeme goes has = refused_from_run lexemes lexeme (state_of reader) has.runs goes

-- the same of a call
pub taken_on_all : (result : Result Bool Refusal) (reader next : ReaderState) (lexeme : Lexeme FormulaKind)
    → IfOk result (λ taken. Goes taken reader (formula_symbol_of lexeme) next)
    → IfOk result (λ taken. (start : ReaderState) (lexemes : List (Lexeme FormulaKind)) → HasBecome start lexemes reader
    → TakesOrRefuses taken (TokensBegin formula_syntax) (λ all. HasBecome start all next) lexemes lexeme)
taken_on_all (Err refusal) reader next lexeme goes = tt
taken_on_all (Ok taken) reader next lexeme goes = λ start lexemes has. taken_on taken start reader next lexemes lexeme goes has

-- tokens that lead to an end are a text, and others are unfinished
pub judged_from_run : (done : Bool) (state : ReadState) (lexemes : List (Lexeme FormulaKind)) → run initial (symbols_of lexemes) ≡ Some state
    → IsTrue done ↔ IsSome (ended state) → IsWholeOrUnfinished done (TokensBegin formula_syntax) (TokensComplete formula_syntax) lexemes
judged_from_run true state lexemes runs judged = go (ends state)
  where
    go : ((tree : FormulaTree) × (ended state ≡ Some tree)) ⊎ (ended state ≡ None) → TokensComplete formula_syntax lexemes
    go (inl found) = (found.0, run_spells (symbols_of lexemes) state found.0 runs found.1)
    go (inr none) = absurd (let clash : false ≡ true = subst IsSome none (judged.0 refl) in cc)
judged_from_run false state lexemes runs judged = go (ends state)
  where
    go : ((tree : FormulaTree) × (ended state ≡ Some tree)) ⊎ (ended state ≡ None)
        → IsWholeOrUnfinished false (TokensBegin formula_syntax) (TokensComplete formula_syntax) lexemes
    go (inl found) = absurd (let clash : false ≡ true = judged.1 (subst IsSome (sym found.1) refl) in cc)
    go (inr none) = unfinished_from_run lexemes state runs none

-- the same of a reader
pub judged_end : (done : Bool) (start reader : ReaderState) (lexemes : List (Lexeme FormulaKind)) → IsTrue done ↔ IsSome (ended (state_of reader))
    → HasBecome start lexemes reader → IsWholeOrUnfinished done (TokensBegin formula_syntax) (TokensComplete formula_syntax) lexemes
judged_end done start reader lexemes judged has = judged_from_run done (state_of reader) lexemes has.runs judged
