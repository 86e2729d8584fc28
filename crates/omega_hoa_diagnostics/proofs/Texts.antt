-- The fault of what is written in a text is that for which the text is refused.
use Rattle.std.proofs.Common.{◌≡◌, ◌≤◌, ℕ, inl, inr, IfOk, Some, None, List, [], ◌∷◌, ◌++◌, append-nil, length, refl, ap, sym, ◌∙◌, subst, arith}
use Rattle.std.specs.List.{AllByRecursion}
use Rattle.omega_text.specs.Cases.{or_memory}
use Rattle.omega_text.specs.Cut.{Cuts, IsCut}
use Rattle.omega_text.specs.Lexeme.{Lexeme}
use Rattle.omega_text.specs.Limits.{most_text}
use Rattle.omega_text.specs.Reading.{IsTokenOf}
use Rattle.omega_text.specs.Refusal.{automaton_number}
use Rattle.omega_text.specs.hoa.Format.{hoa_format}
use Rattle.omega_text.specs.declared.hoa.kind.HoaKind.{HoaKind}
use Rattle.omega_text.specs.declared.hoa.kind.HoaKind.TheVariants.{End}
use Rattle.omega_text.specs.declared.refusal.Refusal.{Refusal}
use Rattle.omega_text.specs.declared.refusal.Refusal.TheVariants.{Automaton, Circuit, Game, Io, Memory, Task, Text}
use Rattle.omega_text.specs.declared.refusal.automaton.AutomatonFault.{AutomatonFault}
use Rattle.omega_text.specs.declared.refusal.automaton.AutomatonFault.TheVariants.{AcceptanceAtom, Alias, Expansion, ImplicitCount, MissingAcceptance, MixedLabels, Proposition, RepeatedHeader, SetRange, StateRange, StateTwice, TooDeep, UnknownHeader, Version}
use Rattle.omega_text.specs.declared.refusal.text.TextFault.TheVariants.{Syntax, TooLong}
use Rattle.omega_hoa_syntax.specs.declared.raw_automaton.RawAutomaton.{RawAutomaton}
use Rattle.omega_hoa_automaton.specs.Automaton.{Description}
use Rattle.omega_hoa_automaton.specs.Faults.{automaton_fault_of}
use Rattle.omega_hoa_automaton.specs.Laws.{MeaningsAreThere}
use Rattle.omega_hoa.specs.Alone.{AreRefused, IsAutomatonRefusal, IsAutomatonText}
use Rattle.omega_hoa.specs.Laws.{AutomataAreUnrefused, AutomataFillSegments, RefusalsAreOne}
use Rattle.omega_hoa.specs.Segment.{IsRawOf}
use Rattle.omega_hoa.specs.Stream.{IsSegment}
use Rattle.omega_hoa_diagnostics.specs.AutomatonCauses.{IsAutomatonCause, WritesAutomaton, fault_line, line_for}
use Rattle.omega_hoa_diagnostics.specs.private.Refused.{HasFault, IsFaultOf, IsRefusedFor, fault_in}

-- tokens that follow one another are tokens of the format
are_tokens : (source : List ℕ) (from to : ℕ) (lexemes : List (Lexeme HoaKind)) → Cuts hoa_format source from lexemes to
    → AllByRecursion (IsTokenOf hoa_format) lexemes
are_tokens source from to [] cuts = tt
are_tokens source from to (lexeme ∷ rest) cuts =
    ((source, from, cuts.0), are_tokens source lexeme.span.end to rest cuts.1)

-- the tokens of a written automaton are a whole segment
whole_segment : (text : List ℕ) (raw : RawAutomaton) → AutomataFillSegments → (writes : WritesAutomaton text raw) → IsSegment End writes.lexemes
whole_segment text raw fill writes =
    let filled = fill writes.lexemes [] raw (are_tokens text 0 writes.cut.end writes.lexemes writes.cut.cuts) writes.written in
    subst (IsSegment End) (sym (filled.split ∙ append-nil filled.segment)) filled.whole

-- a written automaton without a fault is that of a text
without_fault : (text : List ℕ) (raw : RawAutomaton) → AutomataFillSegments → MeaningsAreThere → WritesAutomaton text raw
    → automaton_fault_of raw ≡ None → (a : Description) × IsAutomatonText text a
without_fault text raw fill there writes e =
    let meant = there raw e in (
      meant.0,
      record {
        short = writes.short;
        lexemes = writes.lexemes;
        cut = writes.cut;
        segment = whole_segment text raw fill writes;
        value = record { raw = raw; written = writes.written; means = meant.1 };
      },
    )

-- a text in which an automaton with a fault is written is refused for it
with_fault : (text : List ℕ) (raw : RawAutomaton) (fault : AutomatonFault) → AutomataFillSegments → WritesAutomaton text raw
    → automaton_fault_of raw ≡ Some fault → IsAutomatonRefusal text (Automaton fault)
with_fault text raw fault fill writes e =
    inr (
      writes.short,
      inr (
        writes.lexemes,
        writes.cut,
        inr (record {
          segment = writes.lexemes;
          rest = [];
          split = sym (append-nil writes.lexemes);
          whole = whole_segment text raw fill writes;
          refused = inl (record { raw = raw; written = writes.written; has = e }, inr refl);
        }),
      ),
    )

-- what is written in the text of an automaton has no fault
pub accepted_has_none : (text : List ℕ) (a : Description) → AutomataFillSegments → AutomataAreUnrefused → IsAutomatonText text a → HasFault text None
accepted_has_none text a fill unrefused is raw writes =
    elim (automaton_fault_of raw) as (λ o. automaton_fault_of raw ≡ o → o ≡ None) [
      | None ↦ λ e. refl
      | Some fault ↦ λ e. absurd (unrefused text a (Automaton fault) is (with_fault text raw fault fill writes e))
    ] refl

-- what is written in a refused text has the fault for which it is refused
refused_has : (text : List ℕ) (fault : AutomatonFault) → AutomataFillSegments → AutomataAreUnrefused → RefusalsAreOne → MeaningsAreThere
    → IsAutomatonRefusal text (Automaton fault) → HasFault text (Some fault)
refused_has text fault fill unrefused one there why raw writes =
    elim (automaton_fault_of raw) as (λ o. automaton_fault_of raw ≡ o → o ≡ Some fault) [
      | None ↦ λ e. let is = without_fault text raw fill there writes e in absurd (unrefused text is.0 (Automaton fault) is.1 why)
      | Some other ↦ λ e.
          let same : Automaton other ≡ Automaton fault = one text (Automaton other) (Automaton fault) (with_fault text raw other fill writes e) why in cc
    ] refl

-- what is refused for another reason than a fault of its meaning is not written
refused_is_unwritten : (text : List ℕ) (refusal : Refusal) → AutomataFillSegments → AutomataAreUnrefused → RefusalsAreOne → MeaningsAreThere
    → IsAutomatonRefusal text refusal → ((fault : AutomatonFault) → refusal ≡ Automaton fault → ⊥) → HasFault text None
refused_is_unwritten text refusal fill unrefused one there why other raw writes =
    elim (automaton_fault_of raw) as (λ o. automaton_fault_of raw ≡ o → o ≡ None) [
      | None ↦ λ e. refl
      | Some fault ↦ λ e. absurd (other fault (one text refusal (Automaton fault) why (with_fault text raw fault fill writes e)))
    ] refl

-- no fault of an automaton has the number of a fault of syntax
not_three : (fault : AutomatonFault) → automaton_number fault ≡ 3 → ⊥
not_three Version e = omega (arith, e)
not_three RepeatedHeader e = omega (arith, e)
not_three MissingAcceptance e = omega (arith, e)
not_three UnknownHeader e = omega (arith, e)
not_three StateRange e = omega (arith, e)
not_three SetRange e = omega (arith, e)
not_three Proposition e = omega (arith, e)
not_three Alias e = omega (arith, e)
not_three StateTwice e = omega (arith, e)
not_three MixedLabels e = omega (arith, e)
not_three ImplicitCount e = omega (arith, e)
not_three AcceptanceAtom e = omega (arith, e)
not_three TooDeep e = omega (arith, e)
not_three Expansion e = omega (arith, e)

-- tokens that are refused for a fault of their meaning write an automaton
tokens_write : (text : List ℕ) (lexemes : List (Lexeme HoaKind)) (fault : AutomatonFault) → length text ≤ most_text → IsCut hoa_format text lexemes
    → AreRefused (length text) lexemes (Automaton fault) → (raw : RawAutomaton) × WritesAutomaton text raw
tokens_write text lexemes fault short cut (inl syntax) = let e : Automaton fault ≡ Text (Syntax syntax.0) = syntax.1 in absurd (cc)
tokens_write text lexemes fault short cut (inr refused) =
    elim refused.refused [
      | inl both ↦ elim both.1 [
        | inl three ↦ absurd (not_three fault three)
        | inr ends ↦
            let same : refused.segment ≡ lexemes = sym (refused.split ∙ ap (λ rest. refused.segment ++ rest) ends ∙ append-nil refused.segment) in
            (both.0.raw, record { short = short; lexemes = lexemes; cut = cut; written = subst (λ tokens. IsRawOf tokens both.0.raw) same both.0.written })
      ]
      | inr syntax ↦ let e : Automaton fault ≡ Text (Syntax syntax.1.0.span.start) = syntax.1.3 in absurd (cc)
    ]

-- in a text that is refused for a fault of its meaning an automaton is written
refused_writes : (text : List ℕ) (fault : AutomatonFault) → IsAutomatonRefusal text (Automaton fault) → (raw : RawAutomaton) × WritesAutomaton text raw
refused_writes text fault (inl long) = let e : Automaton fault ≡ Text TooLong = long.0 in absurd (cc)
refused_writes text fault (inr (short, inl (lexical, e, why))) = absurd (cc)
refused_writes text fault (inr (short, inr (lexemes, cut, refused))) = tokens_write text lexemes fault short cut refused

-- a text that is refused for a fault of its meaning: what is written in it has that fault
pub refused_for : (text : List ℕ) (fault : AutomatonFault) → AutomataFillSegments → AutomataAreUnrefused → RefusalsAreOne → MeaningsAreThere
    → IsAutomatonRefusal text (Automaton fault) → IsRefusedFor text fault
refused_for text fault fill unrefused one there why =
    let found = refused_writes text fault why in
    record { raw = found.0; writes = found.1; has = refused_has text fault fill unrefused one there why }

-- a refusal tells the fault of what is written
pub refusal_tells : (text : List ℕ) (refusal : Refusal) → AutomataFillSegments → AutomataAreUnrefused → RefusalsAreOne → MeaningsAreThere
    → or_memory (IsAutomatonRefusal text) refusal → IfOk (fault_in refusal) (IsFaultOf text)
refusal_tells text (Text fault) fill unrefused one there why = refused_is_unwritten text (Text fault) fill unrefused one there why (λ other e. cc)
refusal_tells text (Game fault) fill unrefused one there why = refused_is_unwritten text (Game fault) fill unrefused one there why (λ other e. cc)
refusal_tells text (Circuit fault) fill unrefused one there why = refused_is_unwritten text (Circuit fault) fill unrefused one there why (λ other e. cc)
refusal_tells text (Automaton fault) fill unrefused one there why = refused_for text fault fill unrefused one there why
refusal_tells text (Task fault) fill unrefused one there why = refused_is_unwritten text (Task fault) fill unrefused one there why (λ other e. cc)
refusal_tells text Memory fill unrefused one there why = tt
refusal_tells text Io fill unrefused one there why = refused_is_unwritten text Io fill unrefused one there why (λ other e. cc)

-- the line about the fault for which a text is refused is the cause
pub caused : (text line : List ℕ) (fault : AutomatonFault) → IsRefusedFor text fault
    → ((raw : RawAutomaton) → WritesAutomaton text raw → line ≡ fault_line raw fault) → IsAutomatonCause text line
caused text line fault refused said = record {
  written = λ raw writes. said raw writes ∙ ap (line_for raw) (sym (refused.has raw writes));
  unwritten = λ none. absurd (none refused.raw refused.writes);
}
