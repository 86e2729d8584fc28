-- What the bytes of a segment are read as.
use Rattle.std.proofs.Common.{◌≡◌, ℕ, List, ap, subst, ◌∙◌}
use Rattle.omega_text.specs.Lexeme.{Lexeme}
use Rattle.omega_text.specs.declared.hoa.kind.HoaKind.{HoaKind}
use Rattle.omega_text.specs.declared.refusal.Refusal.{Refusal}
use Rattle.omega_text.specs.declared.refusal.Refusal.TheVariants.{Automaton as AutomatonRefusal, Memory, Text}
use Rattle.omega_text.specs.declared.refusal.text.TextFault.{TextFault}
use Rattle.omega_text.specs.declared.refusal.text.TextFault.TheVariants.{Syntax}
use Rattle.omega_hoa_expression.specs.Unread.{IsFirstUnread, IsUnread}
use Rattle.omega_hoa_syntax.specs.Grammar.{BeginsAutomaton, ReadsAutomaton, ReadsNoAutomaton}
use Rattle.omega_hoa_syntax.specs.declared.raw_automaton.RawAutomaton.{RawAutomaton}
use Rattle.omega_hoa_automaton.specs.Meaning.{IsMeaningless}
use Rattle.omega_hoa.specs.Segment.{IsRawOf}
use Rattle.omega_hoa.specs.Stream.{IsSegment}
use Rattle.omega_hoa.specs.private.Places.{IsPartFault, IsPartUnread}
use Rattle.omega_hoa.proofs.Writing.{nothing_left}

-- an automaton that is read of a segment's tokens is all of them
pub all_read : (tokens lexemes rest : List (Lexeme HoaKind)) (raw : RawAutomaton) (mark : HoaKind) → tokens ≡ lexemes → ReadsAutomaton tokens raw rest → IsSegment mark lexemes → IsRawOf lexemes raw
all_read tokens lexemes rest raw mark same reads segment = nothing_left lexemes rest raw mark segment (subst (λ ls. ReadsAutomaton ls raw rest) same reads)

-- if none is read, that is first seen at a place
pub none_read : (tokens lexemes : List (Lexeme HoaKind)) (refusal : Refusal) (fault : TextFault) (at length long : ℕ) → tokens ≡ lexemes → long ≡ length → refusal ≡ Text fault → fault ≡ Syntax at
    → IsUnread ReadsNoAutomaton BeginsAutomaton tokens long refusal → IsFirstUnread ReadsNoAutomaton BeginsAutomaton lexemes length at
none_read tokens lexemes refusal fault at length long same text is syntax unread =
    let first : IsFirstUnread ReadsNoAutomaton BeginsAutomaton tokens long at = subst (IsUnread ReadsNoAutomaton BeginsAutomaton tokens long) (is ∙ ap (λ said. Text said) syntax) unread in
    subst (λ l. IsFirstUnread ReadsNoAutomaton BeginsAutomaton lexemes l at) text (subst (λ ls. IsFirstUnread ReadsNoAutomaton BeginsAutomaton ls long at) same first)

-- a segment that is not read has a fault
pub unread_fault : (begins : ℕ) (lexemes : List (Lexeme HoaKind)) (refusal : Refusal) → IsPartUnread begins lexemes refusal → IsPartFault begins lexemes refusal
unread_fault begins lexemes (Text fault) unread = unread
unread_fault begins lexemes Memory unread = tt
unread_fault begins lexemes refusal unread = absurd unread

-- so has one that means nothing
pub meaningless_fault : (begins : ℕ) (lexemes : List (Lexeme HoaKind)) (raw : RawAutomaton) (refusal : Refusal) → IsRawOf lexemes raw → IsMeaningless raw refusal → IsPartFault begins lexemes refusal
meaningless_fault begins lexemes raw (AutomatonRefusal fault) written has = record { raw = raw; written = written; has = has }
meaningless_fault begins lexemes raw Memory written has = tt
meaningless_fault begins lexemes raw refusal written has = absurd has
