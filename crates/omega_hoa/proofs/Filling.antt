-- An automaton that tokens begin with is a whole segment of them.
use Rattle.std.proofs.Common.{◌≡◌, ℕ, List, [], ◌∷◌, ◌++◌, codes, refl, sym, ap, subst, ◌∙◌, append_assoc, length-append, arith}
use Rattle.std.specs.List.{AllByRecursion}
use Rattle.std.proofs.lemmas.List.{take_at}
use Rattle.omega_text.specs.Lexeme.{Lexeme}
use Rattle.omega_text.specs.Reading.{IsTokenOf}
use Rattle.omega_text.specs.declared.hoa.kind.HoaKind.{HoaKind}
use Rattle.omega_text.specs.declared.hoa.kind.HoaKind.TheVariants as kind
use Rattle.omega_text.specs.hoa.Format.{hoa_format}
use Rattle.omega_text.specs.hoa.Forms.{IsForm}
use Rattle.omega_text.specs.hoa.Forms as forms
use Rattle.omega_hoa_expression.specs.Symbols.{EndsThere}
use Rattle.omega_hoa_syntax.specs.Grammar.{ReadsAutomaton, automaton_symbols}
use Rattle.omega_hoa_syntax.specs.Symbols.{ReadsSymbol, Shows, ReadsSymbols, AutomatonSymbol, formula, header, label, without_last}
use Rattle.omega_hoa_syntax.specs.declared.raw_automaton.RawAutomaton.{RawAutomaton}
use Rattle.omega_hoa.specs.Laws.{FillsSegment}
use Rattle.omega_hoa.specs.Stream.{Opens}
use Rattle.omega_hoa.proofs.Writing.{written_ends}

-- what does not go on with an operator does not without the tokens after it
ends_first : (front rest : List (Lexeme HoaKind)) → EndsThere (front ++ rest) → EndsThere front
ends_first [] rest ends = tt
ends_first (lexeme ∷ front) rest ends = ends

-- a symbol's tokens are its tokens before fewer others too
begun_before : (symbol : AutomatonSymbol) (tokens middle back rest : List (Lexeme HoaKind)) → middle ≡ back ++ rest → ReadsSymbol symbol tokens middle
    → (front : List (Lexeme HoaKind)) × (tokens ≡ front ++ middle) × ReadsSymbol symbol (front ++ back) back
begun_before (label it) tokens middle back rest is begins = (
  begins.front,
  begins.split,
  record { front = begins.front; split = refl; spells = begins.spells; is = begins.is; ends = ends_first back rest (subst EndsThere is begins.ends) },
)
begun_before (formula it) tokens middle back rest is begins = (
  begins.front,
  begins.split,
  record { front = begins.front; split = refl; spells = begins.spells; is = begins.is; ends = ends_first back rest (subst EndsThere is begins.ends) },
)
begun_before symbol tokens middle back rest is begins =
    (begins.lexeme ∷ [], begins.next, record { lexeme = begins.lexeme; next = refl; shows = begins.shows })

-- symbols that tokens begin with are spelled by the first of them alone
spelled_alone : (symbols : List AutomatonSymbol) (tokens rest : List (Lexeme HoaKind)) → ReadsSymbols tokens symbols rest
    → (front : List (Lexeme HoaKind)) × (tokens ≡ front ++ rest) × ReadsSymbols front symbols []
spelled_alone [] tokens rest spells = ([], spells, refl)
spelled_alone (symbol ∷ symbols) tokens rest spells =
    let back = spelled_alone symbols spells.middle rest spells.back in
    let one = begun_before symbol tokens spells.middle back.0 rest back.1 spells.front in (
      one.0 ++ back.0,
      one.1 ∙ ap (λ all. one.0 ++ all) back.1 ∙ sym (append_assoc one.0 back.0 rest),
      record { middle = back.0; front = one.2; back = back.2 },
    )

-- a token of a text that is written `HOA` before its colon is `HOA:`
opening : (lexeme : Lexeme HoaKind) → IsTokenOf hoa_format lexeme → Shows (header (codes "HOA")) lexeme → Opens lexeme
opening lexeme of shows =
    let form : IsForm kind.HeaderName lexeme.text = (subst (λ sort. forms.Spells sort lexeme.value lexeme.text) shows.0 of.2.spells).1 in
    let name : List ℕ = form.0 in
    let bare : without_last (name ++ 58 ∷ []) ≡ name = take_at name (58 ∷ []) _ (omega (arith, length-append name (58 ∷ []))) in
    let same : name ≡ codes "HOA" = sym bare ∙ (sym (ap without_last form.1) ∙ shows.1) in
    record { kind = shows.0; text = form.1 ∙ ap (λ bytes. bytes ++ 58 ∷ []) same }

-- an automaton fills a segment
pub segment_filled : (tokens rest : List (Lexeme HoaKind)) (raw : RawAutomaton) → AllByRecursion (IsTokenOf hoa_format) tokens
    → ReadsAutomaton tokens raw rest → FillsSegment tokens raw rest
segment_filled tokens rest raw all reads =
    let alone = spelled_alone (automaton_symbols raw) tokens rest reads.spells in
    let first = alone.2.front in
    let end = written_ends raw alone.2.middle [] alone.2.back in
    let is : IsTokenOf hoa_format first.lexeme =
    (subst (AllByRecursion (IsTokenOf hoa_format)) (alone.1 ∙ ap (λ segment. segment ++ rest) first.next) all).0 in
    record {
      segment = alone.0;
      split = alone.1;
      whole = record {
        inside = first.lexeme ∷ end.front;
        last = end.last;
        split = first.next ∙ ap (λ others. first.lexeme ∷ others) end.split;
        before = record { first = first.lexeme; rest = end.front; split = refl; opens = opening first.lexeme is first.shows; unended = end.unended };
        ends = end.ends;
      };
      written = record { items = reads.items; states = reads.states; spells = alone.2 };
    }
