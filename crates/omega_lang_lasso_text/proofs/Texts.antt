-- Lasso texts as they are read: one lasso or one refusal, and never both.
use Rattle.std.proofs.Common.{◌≡◌, ℕ, ◌⊎◌, inl, inr, List, ap, sym, ◌∙◌, subst}
use Rattle.omega_text.specs.Cases.{never, or_memory, or_text}
use Rattle.omega_text.specs.Cut.{CutsAreOne}
use Rattle.omega_text.specs.Reading.{IsReadText}
use Rattle.omega_text.specs.Syntax.{IsDecidable, IsTextFault, IsTextOf, TextFaultsAreOne, TextsAreReadOrFaulty, TextsHaveNoFault, TokensComplete}
use Rattle.omega_text.specs.declared.refusal.Refusal.{Refusal}
use Rattle.omega_text.specs.declared.refusal.Refusal.TheVariants.{Automaton, Circuit, Game, Io, Memory, Task, Text}
use Rattle.omega_lang_lasso_text.specs.Format.{lasso_format}
use Rattle.omega_lang_lasso_text.specs.Grammar.{lasso_syntax}
use Rattle.omega_lang_lasso_text.specs.Laws.{LassoRefusalsAreOne, LassoTextsAreReadOrRefused, LassosAreNotRefused, LassosOfTextsAreOne}
use Rattle.omega_lang_lasso_text.specs.Refusing.{IsLassoRefusal, IsReadLassoRefusal}
use Rattle.omega_lang_lasso_text.specs.Text.{IsLassoText}
use Rattle.omega_lang_lasso_text.specs.declared.lasso.LassoText.{LassoText}
use Rattle.omega_lang_lasso_text.specs.private.Reader.{HasBecome}
use Rattle.omega_lang_lasso_text.specs.private.Reading.{LassoState}
use Rattle.omega_lang_lasso_text.proofs.Deciding.{decided, lasso_same, symbols_of, text_state, texts_one}

-- what a new reader became is what the text says
pub lasso_read : (source : List ℕ) (start reader : LassoState) (lasso : LassoText) → lasso.stem ≡ reader.before → lasso.cycle ≡ reader.around
    → IsReadText lasso_format (λ lexemes. HasBecome start lexemes reader) (TokensComplete lasso_syntax) source → IsLassoText source lasso
lasso_read source start reader lasso before around read =
    let raw = read.complete.0 in
    let state = text_state (symbols_of read.lexemes) reader raw read.all_taken read.complete.1 in
    let same : raw ≡ lasso = lasso_same raw lasso
    (sym (before ∙ ap (λ (s : LassoState). s.before) state)) (sym (around ∙ ap (λ (s : LassoState). s.around) state)) in
    record {
      short = read.short;
      writes = subst (IsTextOf lasso_syntax source) same (record { lexemes = read.lexemes; cut = read.cut; text = read.complete.1 });
    }

-- the refusal of a text that was not read
pub lasso_unread : (source : List ℕ) (refusal : Refusal) → or_text (IsTextFault lasso_syntax source) (or_memory never) refusal → IsReadLassoRefusal source refusal
lasso_unread source (Text fault) refused = refused
lasso_unread source (Game fault) refused = refused
lasso_unread source (Circuit fault) refused = refused
lasso_unread source (Automaton fault) refused = refused
lasso_unread source (Task fault) refused = refused
lasso_unread source Memory refused = refused
lasso_unread source Io refused = refused

pub lassos_one : CutsAreOne lasso_format → LassosOfTextsAreOne
lassos_one cuts source one other a b = texts_one cuts source one other a.writes b.writes

pub refusals_one : TextFaultsAreOne lasso_syntax → LassoRefusalsAreOne
refusals_one faults source (Text one) (Text other) a b = ap Text (faults source one other a b)
refusals_one faults source (Text one) (Game other) a b = absurd b
refusals_one faults source (Text one) (Circuit other) a b = absurd b
refusals_one faults source (Text one) (Automaton other) a b = absurd b
refusals_one faults source (Text one) (Task other) a b = absurd b
refusals_one faults source (Text one) Memory a b = absurd b
refusals_one faults source (Text one) Io a b = absurd b
refusals_one faults source (Game one) other a b = absurd a
refusals_one faults source (Circuit one) other a b = absurd a
refusals_one faults source (Automaton one) other a b = absurd a
refusals_one faults source (Task one) other a b = absurd a
refusals_one faults source Memory other a b = absurd a
refusals_one faults source Io other a b = absurd a

pub lassos_apart : TextsHaveNoFault lasso_syntax → LassosAreNotRefused
lassos_apart none source lasso (Text fault) text refused = none source lasso fault text.short text.writes refused
lassos_apart none source lasso (Game fault) text refused = refused
lassos_apart none source lasso (Circuit fault) text refused = refused
lassos_apart none source lasso (Automaton fault) text refused = refused
lassos_apart none source lasso (Task fault) text refused = refused
lassos_apart none source lasso Memory text refused = refused
lassos_apart none source lasso Io text refused = refused

pub texts_decided : (IsDecidable lasso_syntax → TextsAreReadOrFaulty lasso_syntax) → LassoTextsAreReadOrRefused
texts_decided read_or source =
    elim (read_or decided source)
    as (λ _. ((lasso : LassoText) × IsLassoText source lasso) ⊎ ((refusal : Refusal) × IsLassoRefusal source refusal)) [
      | inl text ↦ inl (text.1.0, record { short = text.0; writes = text.1.1 })
      | inr faulty ↦ inr (Text faulty.0, faulty.1)
    ]
