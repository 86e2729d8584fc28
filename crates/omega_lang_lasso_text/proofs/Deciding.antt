-- What runs say of the tokens of a text: whether they begin one, and whether they are one.
use Rattle.std.proofs.Common.{◌≡◌, ℕ, ◌⊎◌, inl, inr, Some, None, List, [], ◌∷◌, ◌++◌, map, refl, ap, sym, ◌∙◌, subst}
use Rattle.std.proofs.lemmas.List.{map-append}
use Rattle.omega_text.specs.Cut.{CutsAreOne}
use Rattle.omega_text.specs.Lexeme.{Lexeme}
use Rattle.omega_text.specs.Syntax.{Begins, IsDecidable, IsTextOf, IsUnfinished, TokensBegin, TokensComplete}
use Rattle.omega_lang_lasso_text.specs.Format.{lasso_format}
use Rattle.omega_lang_lasso_text.specs.Grammar.{SpellsLasso, lasso_syntax}
use Rattle.omega_lang_lasso_text.specs.Symbols.{LassoSymbol, lasso_symbol_of}
use Rattle.omega_lang_lasso_text.specs.declared.kind.LassoKind.{LassoKind}
use Rattle.omega_lang_lasso_text.specs.declared.lasso.LassoText.{LassoText}
use Rattle.omega_lang_lasso_text.specs.declared.stage.LassoStage.TheVariants.{Cycle}
use Rattle.omega_lang_lasso_text.specs.private.Reading.{IsEnded, LassoState, initial, kept, run, step}
use Rattle.omega_lang_lasso_text.proofs.Runs.{completes, ends, lasso_in, run_on, run_push, run_stopped, run_text, text_run}

-- the symbols of tokens
abbrev pub symbols_of : List (Lexeme LassoKind) → List LassoSymbol
symbols_of lexemes = map lasso_symbol_of lexemes

-- what is run begins a text
begins_from_run : (symbols : List LassoSymbol) (state : LassoState) → run initial symbols ≡ Some state → Begins lasso_syntax symbols
begins_from_run symbols state e =
    let rest = completes state in (
      rest.more,
      lasso_in rest.state,
      text_run (symbols ++ rest.more) rest.state (run_on initial state symbols rest.more e ∙ rest.runs) rest.ended,
    )

-- what begins a text is run
run_begins : (symbols : List LassoSymbol) → Begins lasso_syntax symbols → run initial symbols ≡ None → ⊥
run_begins symbols begins none =
    let clash : Some (kept Cycle begins.1.stem begins.1.cycle) ≡ None = sym (run_text (symbols ++ begins.0) begins.1 begins.2) ∙ run_stopped initial symbols begins.0 none in
    cc

-- the state of a text is its lasso
pub text_state : (symbols : List LassoSymbol) (state : LassoState) (lasso : LassoText) → run initial symbols ≡ Some state → SpellsLasso symbols lasso → state ≡ kept Cycle lasso.stem lasso.cycle
text_state symbols state lasso e text =
    let same : Some state ≡ Some (kept Cycle lasso.stem lasso.cycle) = sym e ∙ run_text symbols lasso text in
    cc

-- what runs to a text has ended
ended_from_run : (symbols : List LassoSymbol) (state : LassoState) (lasso : LassoText) → run initial symbols ≡ Some state → SpellsLasso symbols lasso → IsEnded state
ended_from_run symbols state lasso e text = subst IsEnded (sym (text_state symbols state lasso e text)) (refl, text.longer)

-- lassos of the same parts are the same
pub lasso_same : (one other : LassoText) → one.stem ≡ other.stem → one.cycle ≡ other.cycle → one ≡ other
lasso_same one other before around = λ i. record { stem = before i; cycle = around i }

-- symbols are at most one lasso
raw_one : (symbols : List LassoSymbol) (one other : LassoText) → SpellsLasso symbols one → SpellsLasso symbols other → one ≡ other
raw_one symbols one other a b =
    let same : kept Cycle one.stem one.cycle ≡ kept Cycle other.stem other.cycle =
    text_state symbols (kept Cycle one.stem one.cycle) other (run_text symbols one a) b in
    lasso_same one other (ap (λ (s : LassoState). s.before) same) (ap (λ (s : LassoState). s.around) same)

-- so are bytes
pub texts_one : CutsAreOne lasso_format → (source : List ℕ) (one other : LassoText) → IsTextOf lasso_syntax source one → IsTextOf lasso_syntax source other → one ≡ other
texts_one cuts source one other a b =
    raw_one (symbols_of b.lexemes) one other
    (subst (λ lexemes. SpellsLasso (symbols_of lexemes) one) (cuts source a.lexemes b.lexemes a.cut b.cut) a.text) b.text

-- a token that is taken goes on with the run
pub run_taken : (lexemes : List (Lexeme LassoKind)) (lexeme : Lexeme LassoKind) (state : LassoState) → run initial (symbols_of lexemes) ≡ Some state
    → run initial (symbols_of (lexemes ++ lexeme ∷ [])) ≡ step state (lasso_symbol_of lexeme)
run_taken lexemes lexeme state e =
    ap (run initial) (map-append lasso_symbol_of lexemes (lexeme ∷ [])) ∙ run_push initial state (symbols_of lexemes) (lasso_symbol_of lexeme) e

-- a token at which a run stops ends what begins a text
pub refused_from_run : (lexemes : List (Lexeme LassoKind)) (lexeme : Lexeme LassoKind) (state : LassoState) → run initial (symbols_of lexemes) ≡ Some state
    → step state (lasso_symbol_of lexeme) ≡ None
    → TokensBegin lasso_syntax lexemes × (TokensBegin lasso_syntax (lexemes ++ lexeme ∷ []) → ⊥)
refused_from_run lexemes lexeme state e none = (
  begins_from_run (symbols_of lexemes) state e,
  (λ begins. run_begins (symbols_of (lexemes ++ lexeme ∷ [])) begins (run_taken lexemes lexeme state e ∙ none)),
)

-- tokens that were all taken, but not up to an end
pub unfinished_from_run : (lexemes : List (Lexeme LassoKind)) (state : LassoState) → run initial (symbols_of lexemes) ≡ Some state → (IsEnded state → ⊥)
    → IsUnfinished (TokensBegin lasso_syntax) (TokensComplete lasso_syntax) lexemes
unfinished_from_run lexemes state e open_state = record {
  begun = begins_from_run (symbols_of lexemes) state e;
  partial = λ text. open_state (ended_from_run (symbols_of lexemes) state text.0 e text.1);
}

-- whether symbols begin a text
begins_or_not : (symbols : List LassoSymbol) → Begins lasso_syntax symbols ⊎ (Begins lasso_syntax symbols → ⊥)
begins_or_not symbols =
    elim (run initial symbols)
    as (λ o. run initial symbols ≡ o → Begins lasso_syntax symbols ⊎ (Begins lasso_syntax symbols → ⊥)) [
      | None ↦ λ e. inr (λ begins. run_begins symbols begins e)
      | Some state ↦ λ e. inl (begins_from_run symbols state e)
    ]
    refl

-- whether symbols are a text
abbrev SpelledOrNot : List LassoSymbol → Type 0
SpelledOrNot symbols = ((lasso : LassoText) × SpellsLasso symbols lasso) ⊎ ((lasso : LassoText) → SpellsLasso symbols lasso → ⊥)

spells_or_not : (symbols : List LassoSymbol) → SpelledOrNot symbols
spells_or_not symbols =
    elim (run initial symbols)
    as (λ o. run initial symbols ≡ o → SpelledOrNot symbols) [
      | None ↦ λ e. inr (λ lasso text. let clash : Some (kept Cycle lasso.stem lasso.cycle) ≡ None = sym (run_text symbols lasso text) ∙ e in cc)
      | Some state ↦ λ e. elim (ends state) as (λ _. SpelledOrNot symbols) [
        | inl ended ↦ inl (lasso_in state, text_run symbols state e ended)
        | inr open_state ↦ inr (λ lasso text. open_state (ended_from_run symbols state lasso e text))
      ]
    ]
    refl

-- so the syntax is decided
pub decided : IsDecidable lasso_syntax
decided = record {
  some_text = begins_from_run [] initial refl;
  begins_or_not = begins_or_not;
  spells_or_not = spells_or_not;
}
