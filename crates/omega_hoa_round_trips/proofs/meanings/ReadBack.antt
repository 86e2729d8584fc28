-- Automata that were read can be written, and their canonical texts are read back.
use Rattle.std.proofs.Common.{ℕ, ◌≤◌, List, [], ◌∷◌, length, append-nil, sym, subst, ◌∙◌}
use Rattle.std.specs.List.{AllByRecursion}
use Rattle.omega_text.specs.Cut.{Cuts}
use Rattle.omega_text.specs.Limits.{most_text}
use Rattle.omega_text.specs.Reading.{IsTokenOf}
use Rattle.omega_text.specs.declared.hoa.kind.HoaKind.TheVariants.{End}
use Rattle.omega_text.specs.hoa.Format.{hoa_format}
use Rattle.omega_hoa_syntax.specs.Grammar.{IsRawItem, automaton_symbols}
use Rattle.omega_hoa_syntax.specs.Symbols.{Tokens}
use Rattle.omega_hoa_syntax.specs.declared.raw_automaton.RawAutomaton.{RawAutomaton}
use Rattle.omega_hoa_automaton.specs.Automaton.{Description, IsAutomaton}
use Rattle.omega_hoa_automaton.specs.Laws.{MeaningsAreAutomata}
use Rattle.omega_hoa_automaton.specs.Meaning.{Means}
use Rattle.omega_hoa.specs.Alone.{IsAutomatonText}
use Rattle.omega_hoa.specs.Laws.{AutomataFillSegments}
use Rattle.omega_hoa.specs.Segment.{IsAutomatonOf}
use Rattle.omega_hoa.specs.Stream.{IsSegment}
use Rattle.omega_canon.specs.Canonical.{canonical_automaton}
use Rattle.omega_hoa_round_trips.specs.Writable.{IsWritableAutomaton}
use Rattle.omega_hoa_round_trips.specs.Written.{written_automaton}
use Rattle.omega_hoa_round_trips.proofs.meanings.Faultless.{IsFineState}
use Rattle.omega_hoa_round_trips.proofs.meanings.Form.{HasForm, form-kept}
use Rattle.omega_hoa_round_trips.proofs.meanings.Meant.{Meanings, fine-states, written-means}
use Rattle.omega_hoa_round_trips.proofs.texts.Lists.{all-then}
use Rattle.omega_hoa_round_trips.proofs.texts.Spelled.{Known}
use Rattle.omega_hoa_round_trips.proofs.texts.Whole.{canonical-spelled}
use Rattle.omega_hoa_round_trips.proofs.values.Kept.{means-writable}
use Rattle.omega_hoa_round_trips.proofs.values.Rows.{IsReadAutomaton, automaton-says}
use Rattle.omega_hoa_round_trips.proofs.values.Symbols.{IsFormed, said}

-- tokens of texts are those of this automaton
pub record IsOfTokens (a : Description) : Type 0 where
  pub tokens : Tokens
  pub of_text : AllByRecursion (IsTokenOf hoa_format) tokens
  pub is : IsAutomatonOf tokens a

-- tokens of some text have the forms of their kinds
formed : (tokens : Tokens) → AllByRecursion (IsTokenOf hoa_format) tokens → AllByRecursion IsFormed tokens
formed tokens all = all-then (IsTokenOf hoa_format) IsFormed (λ lexeme of. of.2.spells) tokens all

-- what an automaton keeps that was read
kept : (a : Description) (of : IsOfTokens a) → IsReadAutomaton of.is.raw
kept a of = automaton-says of.is.raw (said (automaton_symbols of.is.raw) of.tokens [] (formed of.tokens of.of_text) of.is.written.spells)

-- an automaton that was read can be written
pub read-writable : MeaningsAreAutomata → (a : Description) → IsOfTokens a → IsWritableAutomaton a
read-writable automata a of = means-writable of.is.raw a (kept a of) of.is.written.items of.is.means (automata of.is.raw a of.is.means)

-- as it is written it means itself
pub read-means : Meanings → MeaningsAreAutomata → (a : Description) → IsOfTokens a → Means (written_automaton a) a
read-means meanings automata a of = written-means meanings of.is.raw a (kept a of) of.is.means (automata of.is.raw a of.is.means)

-- its labels are not too deep as they are written
pub read-fine : Meanings → MeaningsAreAutomata → (a : Description) → IsOfTokens a → AllByRecursion (IsFineState a) a.defined
read-fine meanings automata a of = fine-states meanings of.is.raw a (kept a of) of.is.means (automata of.is.raw a of.is.means)

-- it has the form that texts give one
pub read-form : Meanings → (a : Description) → IsOfTokens a → HasForm a
read-form meanings a of = form-kept of.is.raw a of.is.means (λ one. meanings.no_fault of.is.raw a one of.is.means)

-- tokens of a cut are tokens of some text
pub cut-tokens : (source : List ℕ) (from end : ℕ) (tokens : Tokens) → Cuts hoa_format source from tokens end → AllByRecursion (IsTokenOf hoa_format) tokens
cut-tokens source from end [] cuts = tt
cut-tokens source from end (lexeme ∷ tokens) cuts = ((source, from, cuts.0), cut-tokens source lexeme.span.end end tokens cuts.1)

-- the canonical text of an automaton that can be written, and as it is written means itself, is a text of it
pub written-read : Known → AutomataFillSegments → (a : Description) → IsWritableAutomaton a → Means (written_automaton a) a → length (canonical_automaton a) ≤ most_text
    → IsAutomatonText (canonical_automaton a) a
written-read known fill a writable means short =
    let text = canonical-spelled known a writable in
    let filled = fill text.lexemes [] (written_automaton a) (cut-tokens (canonical_automaton a) 0 text.cut.end text.lexemes text.cut.cuts) text.written in
    record {
      short = short;
      lexemes = text.lexemes;
      cut = text.cut;
      segment = subst (IsSegment End) (sym (filled.split ∙ append-nil filled.segment)) filled.whole;
      value = record { raw = written_automaton a; written = text.written; means = means };
    }

-- that of what is meant by what has the form of what is read is one
pub meant-read : Known → Meanings → MeaningsAreAutomata → AutomataFillSegments → (raw : RawAutomaton) (a : Description)
    → IsReadAutomaton raw → AllByRecursion IsRawItem raw.items → Means raw a → length (canonical_automaton a) ≤ most_text → IsAutomatonText (canonical_automaton a) a
meant-read known meanings automata fill raw a read items means short =
    let automaton : IsAutomaton a = automata raw a means in
    written-read known fill a (means-writable raw a read items means automaton) (written-means meanings raw a read means automaton) short

-- the canonical text of an automaton that was read is a text of that automaton
pub canonical-read : Known → Meanings → MeaningsAreAutomata → AutomataFillSegments → (a : Description) → IsOfTokens a → length (canonical_automaton a) ≤ most_text
    → IsAutomatonText (canonical_automaton a) a
canonical-read known meanings automata fill a of short = meant-read known meanings automata fill of.is.raw a (kept a of) of.is.written.items of.is.means short
