-- From each place the text of a word goes on in one way, as a Hanoi text does.
use Rattle.std.proofs.Common.{◌≡◌, ◌≢◌, ℕ, ◌<◌, ◌≤◌, ◌⊎◌, ⊎_elim, inl, inr, List, length, get_or, refl, sym, ap, ◌∙◌, subst, arith}
use Rattle.std.proofs.lemmas.Bool.{cases_eq, cases_lt}
use Rattle.omega_text.specs.Format.{GoesOneWay, IsLexical, IsPartAfter}
use Rattle.omega_text.specs.Lexeme.{Lexeme}
use Rattle.omega_text.specs.declared.hoa.kind.HoaKind.{HoaKind}
use Rattle.omega_text.specs.declared.refusal.text.TextFault.{TextFault}
use Rattle.omega_text.specs.declared.refusal.text.TextFault.TheVariants.{Lex, Number, Syntax, TooLong}
use Rattle.omega_text.specs.hoa.Cut.{Ends}
use Rattle.omega_text.specs.hoa.Fault.{HasFaultFrom as HasHoaFaultFrom}
use Rattle.omega_text.specs.hoa.Format.{hoa_format}
use Rattle.omega_lang_word_text.specs.Cut.{Follows, HasFaultFrom, HasSemicolon, semicolon, semicolon_at, token, word_format}
use Rattle.omega_lang_word_text.specs.private.Parts.{IsSemicolonAt}
use Rattle.omega_lang_word_text.proofs.Semicolons.{lex_place, other_faults, semicolon_at_place, semicolon_faults, semicolon_follows, semicolon_part}

-- a semicolon is at a place, or is not
decided : (source : List ℕ) (place : ℕ) → IsSemicolonAt source place ⊎ (IsSemicolonAt source place → ⊥)
decided source place = ⊎_elim
    (λ below. ⊎_elim (λ same. inl (below, same)) (λ other. inr (λ is. other is.1)) (cases_eq (get_or source place 0) 59))
    (λ past. inr (λ is. (let below = is.0 in omega arith))) (cases_lt place (length source))

module _ (hoa : GoesOneWay hoa_format) (source : List ℕ) (from : ℕ) where
  following : (lexeme : Lexeme HoaKind) → Follows source from lexeme → IsPartAfter source from lexeme.span
  following lexeme (token follows) = hoa.following source from lexeme follows
  following lexeme (semicolon place has is) =
      semicolon_part source from place lexeme (semicolon_faults source from place has) (semicolon_at_place source from place has) is

  one_place : (one other : ℕ) → HasSemicolon source from one → HasSemicolon source from other → one ≡ other
  one_place one other first second =
      let e : Lex one ≡ Lex other = hoa.one_fault source from (Lex one) (Lex other) (semicolon_faults source from one first) (semicolon_faults source from other second) in
      cc

  one_token : (one other : Lexeme HoaKind) → Follows source from one → Follows source from other → one ≡ other
  one_token one other (token first) (token second) = hoa.one_token source from one other first second
  one_token one other (token first) (semicolon place has is) = absurd (hoa.no_token_and_fault source from one (Lex place) first (semicolon_faults source from place has))
  one_token one other (semicolon place has is) (token second) = absurd (hoa.no_token_and_fault source from other (Lex place) second (semicolon_faults source from place has))
  one_token one other (semicolon place has is) (semicolon there too same) = is ∙ (ap semicolon_at (one_place place there has too) ∙ sym same)

  no_token_and_fault : (lexeme : Lexeme HoaKind) (fault : TextFault) → Follows source from lexeme → HasFaultFrom source from fault → ⊥
  no_token_and_fault lexeme fault (token follows) faults = hoa.no_token_and_fault source from lexeme fault follows faults.fault_there
  no_token_and_fault lexeme fault (semicolon place has is) faults = faults.no_semicolon place has

  no_token_at_end : (lexeme : Lexeme HoaKind) → Follows source from lexeme → Ends source from → ⊥
  no_token_at_end lexeme (token follows) ends = hoa.no_token_at_end source from lexeme follows ends
  no_token_at_end lexeme (semicolon place has is) ends = hoa.no_fault_at_end source from (Lex place) (semicolon_faults source from place has) ends

  -- a fault of the Hanoi format is a semicolon or a fault
  parted : (fault : TextFault) → HasHoaFaultFrom source from fault
      → ((lexeme : Lexeme HoaKind) × Follows source from lexeme) ⊎ ((found : TextFault) × HasFaultFrom source from found)
  parted (Lex place) faults = ⊎_elim
      (λ there. inl (semicolon_at place, semicolon_follows source from place (semicolon_at place) faults there refl))
      (λ none. inr (Lex place, other_faults source from (Lex place) faults (λ other is there. none (lex_place source (Lex place) place other refl is there))))
      (decided source place)
  parted (Number place) faults = inr (Number place, other_faults source from (Number place) faults (λ other is there. cc))
  parted (Syntax place) faults = absurd faults.fault_there
  parted TooLong faults = absurd faults.fault_there

  some_way : from ≤ length source
      → Ends source from ⊎ (((lexeme : Lexeme HoaKind) × Follows source from lexeme) ⊎ ((fault : TextFault) × HasFaultFrom source from fault))
  some_way within = ⊎_elim (λ ends. inl ends)
      (λ other. ⊎_elim (λ found. inr (inl (found.0, token found.1))) (λ found. inr (parted found.0 found.1)) other)
      (hoa.some_way source from within)

pub word_exact : GoesOneWay hoa_format → GoesOneWay word_format
word_exact hoa = record {
  following = λ source from lexeme follows. following hoa source from lexeme follows;
  lexical = λ source from fault faults. hoa.lexical source from fault faults.fault_there;
  one_token = λ source from one other first second. one_token hoa source from one other first second;
  one_fault = λ source from one other first second. hoa.one_fault source from one other first.fault_there second.fault_there;
  no_token_and_fault = λ source from lexeme fault follows faults. no_token_and_fault hoa source from lexeme fault follows faults;
  no_token_at_end = λ source from lexeme follows ends. no_token_at_end hoa source from lexeme follows ends;
  no_fault_at_end = λ source from fault faults ends. hoa.no_fault_at_end source from fault faults.fault_there ends;
  some_way = λ source from within. some_way hoa source from within;
}
