-- Each text is read, or has a fault.
use Rattle.std.proofs.Common.{ℕ, ◌≤◌, ◌⊎◌, inl, inr, ⊎_elim, List, [], ◌∷◌, ◌++◌, length, map, refl, sym, subst, append_assoc, append-nil}
use Rattle.std.proofs.lemmas.Bool.{cases_lt}
use Rattle.omega_text.specs.Cut.{IsCut, IsFault}
use Rattle.omega_text.specs.Format.{GoesOneWay, IsLexical}
use Rattle.omega_text.specs.Lexeme.{Lexeme}
use Rattle.omega_text.specs.Limits.{most_text}
use Rattle.omega_text.specs.Syntax.{IsDecidable, IsTextFault, IsTextOf, IsWrongAt, Syntax, TextsAreReadOrFaulty, TokensBegin}
use Rattle.omega_text.specs.declared.refusal.text.TextFault.{TextFault}
use Rattle.omega_text.specs.declared.refusal.text.TextFault.TheVariants.{Lex, Number, Syntax as SyntaxFault, TooLong}
use Rattle.omega_text.proofs.formats.Cutting.{cut_or_fault}

module _ {Kind Symbol Raw : Type 0} (syntax : Syntax Kind Symbol Raw) (exact : GoesOneWay syntax.format) (decided : IsDecidable syntax) where
  -- some token is the first wrong one
  abbrev HasWrong : List (Lexeme Kind) → Type 0
  HasWrong lexemes = (place : ℕ) × IsWrongAt (TokensBegin syntax) lexemes place

  -- after a front that begins a text, all tokens begin one, or one of them is the first wrong one
  begins_or_wrong : (front rest : List (Lexeme Kind)) → TokensBegin syntax front → TokensBegin syntax (front ++ rest) ⊎ HasWrong (front ++ rest)
  begins_or_wrong front [] begins = inl (subst (TokensBegin syntax) (sym (append-nil front)) begins)
  begins_or_wrong front (one ∷ rest) begins = ⊎_elim
      (λ through. subst (λ list. TokensBegin syntax list ⊎ HasWrong list) (append_assoc front (one ∷ []) rest) (begins_or_wrong (front ++ one ∷ []) rest through))
      (λ ends. inr (
        one.span.start,
        record {
          front = front;
          wrong = one;
          rest = rest;
          split = refl;
          begins_before = begins;
          ends_there = ends;
          there = refl;
        },
      ))
      (decided.begins_or_not (map syntax.symbol (front ++ one ∷ [])))

  -- the bytes are a text, or have a fault
  abbrev Judged : List ℕ → Type 0
  Judged source = ((length source ≤ most_text) × ((raw : Raw) × IsTextOf syntax source raw)) ⊎ ((fault : TextFault) × IsTextFault syntax source fault)

  -- tokens that begin a text are one, or end too early
  judge_begun : (source : List ℕ) (lexemes : List (Lexeme Kind)) → length source ≤ most_text → IsCut syntax.format source lexemes → TokensBegin syntax lexemes → Judged source
  judge_begun source lexemes short cut begins = ⊎_elim
      (λ text. inl (short, (text.0, record { lexemes = lexemes; cut = cut; text = text.1 })))
      (λ none. inr (
        SyntaxFault (length source),
        (
          short,
          record {
            lexemes = lexemes;
            cut = cut;
            fault_there = inr (record { begun = begins; partial = λ text. none text.0 text.1 }, refl);
          },
        ),
      ))
      (decided.spells_or_not (map syntax.symbol lexemes))

  -- tokens of a text
  judge_tokens : (source : List ℕ) (lexemes : List (Lexeme Kind)) → length source ≤ most_text → IsCut syntax.format source lexemes → Judged source
  judge_tokens source lexemes short cut = ⊎_elim
      (λ begun. judge_begun source lexemes short cut begun)
      (λ wrong. inr (SyntaxFault wrong.0, (short, record { lexemes = lexemes; cut = cut; fault_there = inl wrong.1 })))
      (begins_or_wrong [] lexemes decided.some_text)

  -- a fault of tokens within the limit is the text's
  judge_fault : (source : List ℕ) (fault : TextFault) → length source ≤ most_text → IsFault syntax.format source fault → IsLexical fault → Judged source
  judge_fault source (Lex at) short fault lexical = inr (Lex at, (short, fault))
  judge_fault source (Number at) short fault lexical = inr (Number at, (short, fault))
  judge_fault source (SyntaxFault at) short fault lexical = absurd lexical
  judge_fault source TooLong short fault lexical = absurd lexical

  -- each text is read, or has a fault
  pub read_or_faulty : TextsAreReadOrFaulty syntax
  read_or_faulty source = ⊎_elim
      (λ long. inr (TooLong, long))
      (λ short. ⊎_elim
      (λ cut. judge_tokens source cut.0 short cut.1)
      (λ fault. judge_fault source fault.0 short fault.1 (exact.lexical source fault.1.end fault.0 fault.1.faults))
      (cut_or_fault syntax.format exact source))
      (cases_lt most_text (length source))
