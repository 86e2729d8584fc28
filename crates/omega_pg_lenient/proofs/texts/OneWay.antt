-- Lenient texts go on from each place in one way, as strict texts do.
use Rattle.std.proofs.Common.{◌≡◌, ℕ, ◌≤◌, ◌⊎◌, inl, inr, ⊎_elim, List, length, get_or, take, drop, refl, ap, sym, ◌∙◌, subst, arith, codes, eqb, length-drop}
use Rattle.std.proofs.lemmas.List.{length-take}
use Rattle.std.specs.Cmp.Lexicographic.{bytes_decides, pointwise}
use Rattle.omega_text.specs.Bytes.{is_word_byte}
use Rattle.omega_text.specs.Format.{GoesOneWay, IsPartAfter}
use Rattle.omega_text.specs.Lexeme.{Lexeme, lexeme_at}
use Rattle.omega_text.specs.declared.refusal.text.TextFault.{TextFault}
use Rattle.omega_text.specs.declared.refusal.text.TextFault.TheVariants.{Lex, Number, Syntax, TooLong}
use Rattle.omega_text.specs.pg.Format.{pg_format}
use Rattle.omega_text.proofs.pg_texts.Classes.{both_ways, two_ways}
use Rattle.omega_pg_lenient.specs.Format.{BeginsStart, HasFaultFrom, IsAtStart, lenient, lenient_format}
use Rattle.omega_pg_lenient.specs.declared.kind.LenientKind.{LenientKind}
use Rattle.omega_pg_lenient.specs.declared.kind.LenientKind.TheVariants.{Start}

-- the token of the word `start` at a place
abbrev start_at : ℕ → Lexeme LenientKind
start_at place = lexeme_at place Start 0 (codes "start")

-- bytes that begin with `start` are at least as many
start_within : (bytes : List ℕ) → BeginsStart bytes → 5 ≤ length bytes
start_within bytes begins =
    let long : length (take 5 bytes) ≡ 5 = ap length begins.word in
    omega (arith, long, length-take 5 bytes)

-- whether bytes begin with `start`
start_or_not : (bytes : List ℕ) → BeginsStart bytes ⊎ (BeginsStart bytes → ⊥)
start_or_not bytes =
    let same = bytes_decides (take 5 bytes) (codes "start") in
    ⊎_elim
    (λ word. ⊎_elim
    (λ longer. inr (λ begins. both_ways _ longer begins.ended))
    (λ ended. inl (record { word = same.0 word; ended = ended }))
    (two_ways (is_word_byte (get_or bytes 5 0))))
    (λ other. inr (λ begins. both_ways _ (same.1 begins.word) other))
    (two_ways (pointwise eqb (take 5 bytes) (codes "start")))

-- the word `start` at a fault is a part of the text
start_part : (source : List ℕ) (from place : ℕ) → pg_format.faults source from (Lex place) → BeginsStart (drop place source)
    → IsPartAfter source from ((start_at place).span)
start_part source from place faults begins =
    let same : place ≡ faults.place = faults.fault_there.0 in
    record {
      forward = omega (arith, same, faults.gap.forward);
      nonempty = omega arith;
      within = omega (arith, start_within (drop place source) begins, length-drop place source, same, faults.more);
    }

module _ (strict : GoesOneWay pg_format) where
  following : (source : List ℕ) (from : ℕ) (lexeme : Lexeme LenientKind) → lenient_format.follows source from lexeme → IsPartAfter source from lexeme.span
  following source from lexeme (inl token) =
      subst (λ (one : Lexeme LenientKind). IsPartAfter source from one.span) (sym token.same) (strict.following source from token.token token.follows)
  following source from lexeme (inr start) =
      subst (λ (one : Lexeme LenientKind). IsPartAfter source from one.span) (sym start.same) (start_part source from start.place start.no_strict start.begins)

  one_token : (source : List ℕ) (from : ℕ) (one other : Lexeme LenientKind) → lenient_format.follows source from one → lenient_format.follows source from other → one ≡ other
  one_token source from one other (inl a) (inl b) =
      a.same ∙ ap lenient (strict.one_token source from a.token b.token a.follows b.follows) ∙ sym b.same
  one_token source from one other (inl a) (inr b) = absurd (strict.no_token_and_fault source from a.token (Lex b.place) a.follows b.no_strict)
  one_token source from one other (inr a) (inl b) = absurd (strict.no_token_and_fault source from b.token (Lex a.place) b.follows a.no_strict)
  one_token source from one other (inr a) (inr b) =
      let faults : Lex a.place ≡ Lex b.place = strict.one_fault source from (Lex a.place) (Lex b.place) a.no_strict b.no_strict in
      let places : a.place ≡ b.place = cc in
      a.same ∙ ap start_at places ∙ sym b.same

  no_token_and_fault : (source : List ℕ) (from : ℕ) (lexeme : Lexeme LenientKind) (fault : TextFault)
      → lenient_format.follows source from lexeme → HasFaultFrom source from fault → ⊥
  no_token_and_fault source from lexeme fault (inl token) faulty = strict.no_token_and_fault source from token.token fault token.follows faulty.strict
  no_token_and_fault source from lexeme fault (inr start) faulty =
      faulty.elsewhere (subst (IsAtStart source) (strict.one_fault source from (Lex start.place) fault start.no_strict faulty.strict) start.begins)

  no_token_at_end : (source : List ℕ) (from : ℕ) (lexeme : Lexeme LenientKind) → lenient_format.follows source from lexeme → lenient_format.ends source from → ⊥
  no_token_at_end source from lexeme (inl token) ends = strict.no_token_at_end source from token.token token.follows ends
  no_token_at_end source from lexeme (inr start) ends = strict.no_fault_at_end source from (Lex start.place) start.no_strict ends

  -- where a strict text has a fault, a lenient one has `start` or the same fault
  start_or_fault : (source : List ℕ) (from : ℕ) (fault : TextFault) → pg_format.faults source from fault
      → ((lexeme : Lexeme LenientKind) × lenient_format.follows source from lexeme) ⊎ ((other : TextFault) × HasFaultFrom source from other)
  start_or_fault source from (Lex place) faults =
      ⊎_elim
      (λ begins. inl (start_at place, inr (record { place = place; no_strict = faults; begins = begins; same = refl })))
      (λ other. inr (Lex place, record { strict = faults; elsewhere = other }))
      (start_or_not (drop place source))
  start_or_fault source from (Number place) faults = inr (Number place, record { strict = faults; elsewhere = λ none. none })
  start_or_fault source from (Syntax place) faults = inr (Syntax place, record { strict = faults; elsewhere = λ none. none })
  start_or_fault source from TooLong faults = inr (TooLong, record { strict = faults; elsewhere = λ none. none })

  some_way : (source : List ℕ) (from : ℕ) → from ≤ length source
      → lenient_format.ends source from ⊎ (((lexeme : Lexeme LenientKind) × lenient_format.follows source from lexeme) ⊎ ((fault : TextFault) × HasFaultFrom source from fault))
  some_way source from inside =
      ⊎_elim
      (λ ends. inl ends)
      (λ more. ⊎_elim
      (λ token. inr (inl (lenient token.0, inl (record { token = token.0; follows = token.1; same = refl }))))
      (λ fault. inr (start_or_fault source from fault.0 fault.1))
      more)
      (strict.some_way source from inside)

  pub lenient_one_way : GoesOneWay lenient_format
  lenient_one_way = record {
    following = following;
    lexical = λ source from fault faulty. strict.lexical source from fault faulty.strict;
    one_token = one_token;
    one_fault = λ source from one other a b. strict.one_fault source from one other a.strict b.strict;
    no_token_and_fault = no_token_and_fault;
    no_token_at_end = no_token_at_end;
    no_fault_at_end = λ source from fault faulty ends. strict.no_fault_at_end source from fault faulty.strict ends;
    some_way = some_way;
  }
