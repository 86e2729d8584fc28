-- What the tokens of a segment are is one.
use Rattle.std.proofs.Common.{◌≡◌, Some, None, List, [], sym, ap, subst, ◌∙◌}
use Rattle.omega_text.specs.Lexeme.{Lexeme}
use Rattle.omega_text.specs.declared.hoa.kind.HoaKind.{HoaKind}
use Rattle.omega_text.specs.declared.refusal.Refusal.{Refusal}
use Rattle.omega_text.specs.declared.refusal.Refusal.TheVariants.{Automaton as AutomatonRefusal, Circuit, Game, Io, Memory, Task, Text}
use Rattle.omega_text.specs.declared.refusal.text.TextFault.TheVariants.{Lex, Number, Syntax, TooLong}
use Rattle.omega_text.specs.declared.refusal.automaton.AutomatonFault.{AutomatonFault}
use Rattle.omega_hoa_syntax.specs.Laws.{RawsAreOne}
use Rattle.omega_hoa_syntax.specs.declared.raw_automaton.RawAutomaton.{RawAutomaton}
use Rattle.omega_hoa_automaton.specs.Automaton.{Description}
use Rattle.omega_hoa_automaton.specs.Faults.{automaton_fault_of}
use Rattle.omega_hoa_automaton.specs.Laws.{MeaningsAreOne}
use Rattle.omega_hoa_automaton.specs.Meaning.{Means}
use Rattle.omega_hoa.proofs.Places.{first_one, through_none}
use Rattle.omega_hoa.specs.Segment.{HasMeaningFault, IsAutomatonOf, IsRawOf, IsSegmentFault}

module _ (raws_one : RawsAreOne) (lexemes : List (Lexeme HoaKind)) where
  -- one automaton as it is written
  pub raw_one : (one other : RawAutomaton) → IsRawOf lexemes one → IsRawOf lexemes other → one ≡ other
  raw_one one other here there = (raws_one lexemes one [] here other [] there).0

  -- one automaton
  pub automaton_one : MeaningsAreOne → (one other : Description) → IsAutomatonOf lexemes one → IsAutomatonOf lexemes other → one ≡ other
  automaton_one meanings_one one other here there =
      meanings_one there.raw one other (subst (λ raw. Means raw one) (raw_one here.raw there.raw here.written there.written) here.means) there.means

  -- one fault
  meaning_fault_one : (one other : AutomatonFault) → HasMeaningFault lexemes one → HasMeaningFault lexemes other → one ≡ other
  meaning_fault_one one other here there =
      let same : Some one ≡ Some other = sym here.has ∙ ap automaton_fault_of (raw_one here.raw there.raw here.written there.written) ∙ there.has in
      cc

  pub fault_one : (one other : Refusal) → IsSegmentFault lexemes one → IsSegmentFault lexemes other → one ≡ other
  fault_one (Text (Syntax at)) (Text (Syntax place)) here there = ap (λ n. Text (Syntax n)) (first_one lexemes at place here there)
  fault_one (Text (Syntax at)) (AutomatonRefusal fault) here there = absurd (through_none lexemes at here there.raw there.written)
  fault_one (AutomatonRefusal fault) (Text (Syntax at)) here there = absurd (through_none lexemes at there here.raw here.written)
  fault_one (AutomatonRefusal fault) (AutomatonRefusal other) here there = ap (λ said. AutomatonRefusal said) (meaning_fault_one fault other here there)
  fault_one (Text (Lex at)) other here there = absurd here
  fault_one (Text (Number at)) other here there = absurd here
  fault_one (Text TooLong) other here there = absurd here
  fault_one (Game fault) other here there = absurd here
  fault_one (Circuit fault) other here there = absurd here
  fault_one (Task fault) other here there = absurd here
  fault_one Memory other here there = absurd here
  fault_one Io other here there = absurd here
  fault_one one (Text (Lex at)) here there = absurd there
  fault_one one (Text (Number at)) here there = absurd there
  fault_one one (Text TooLong) here there = absurd there
  fault_one one (Game fault) here there = absurd there
  fault_one one (Circuit fault) here there = absurd there
  fault_one one (Task fault) here there = absurd there
  fault_one one Memory here there = absurd there
  fault_one one Io here there = absurd there

  -- not both an automaton and a fault
  pub automaton_has_no_fault : (automaton : Description) (refusal : Refusal) → IsAutomatonOf lexemes automaton → IsSegmentFault lexemes refusal → ⊥
  automaton_has_no_fault automaton (Text (Syntax at)) is fault = through_none lexemes at fault is.raw is.written
  automaton_has_no_fault automaton (Text said) is fault = absurd fault
  automaton_has_no_fault automaton (AutomatonRefusal said) is fault =
      let same : None ≡ Some said = sym is.means.faultless ∙ ap automaton_fault_of (raw_one is.raw fault.raw is.written fault.written) ∙ fault.has in
      cc
  automaton_has_no_fault automaton (Game said) is fault = fault
  automaton_has_no_fault automaton (Circuit said) is fault = fault
  automaton_has_no_fault automaton (Task said) is fault = fault
  automaton_has_no_fault automaton Memory is fault = fault
  automaton_has_no_fault automaton Io is fault = fault

-- of the tokens of a segment at most one automaton is read, they have at most one fault, and not both
pub record Readings : Type 0 where
  pub automaton_one : (lexemes : List (Lexeme HoaKind)) (one other : Description) → IsAutomatonOf lexemes one → IsAutomatonOf lexemes other → one ≡ other
  pub fault_one : (lexemes : List (Lexeme HoaKind)) (one other : Refusal) → IsSegmentFault lexemes one → IsSegmentFault lexemes other → one ≡ other
  pub not_both : (lexemes : List (Lexeme HoaKind)) (automaton : Description) (refusal : Refusal) → IsAutomatonOf lexemes automaton → IsSegmentFault lexemes refusal → ⊥

pub readings_of : RawsAreOne → MeaningsAreOne → Readings
readings_of raws_one meanings_one = record {
  automaton_one = λ lexemes. automaton_one raws_one lexemes meanings_one;
  fault_one = λ lexemes. fault_one raws_one lexemes;
  not_both = λ lexemes. automaton_has_no_fault raws_one lexemes;
}
