-- The fault of a text that can't be read is one, and no text that can be read has it.
use Rattle.std.proofs.Common.{◌≡◌, ℕ, ◌<◌, ◌≤◌, ◌⊎◌, inl, inr, List, [], length, map, refl, ap, sym, ◌∙◌, subst, append-nil, arith}
use Rattle.omega_text.specs.Cut.{IsCut}
use Rattle.omega_text.specs.Format.{GoesOneWay}
use Rattle.omega_text.specs.Lexeme.{Lexeme}
use Rattle.omega_text.specs.Limits.{most_text}
use Rattle.omega_text.specs.Syntax.{IsMisplaced, IsUnfinished, IsWrongAt, Syntax, TextFaultsAreOne, TextsHaveNoFault, TokensBegin, TokensComplete, TokensSpell}
use Rattle.omega_text.specs.declared.refusal.text.TextFault.TheVariants.{Lex, Number, Syntax as SyntaxFault, TooLong}
use Rattle.omega_text.proofs.formats.Stops.{not_both, one_cut, one_fault}
use Rattle.omega_text.proofs.syntaxes.Fronts.{wrong_ends, wrong_one}

-- a text is not within the limit and above it
both_lengths : (size : ℕ) → size ≤ most_text → most_text < size → ⊥
both_lengths size short long = omega arith

module _ {Kind Symbol Raw : Type 0} (syntax : Syntax Kind Symbol Raw) (exact : GoesOneWay syntax.format) where
  -- tokens that are no text, with the place of their fault, and the length of the text
  abbrev pub IsMisplacedIn : List (Lexeme Kind) → ℕ → ℕ → Type 0
  IsMisplacedIn lexemes size place = IsWrongAt (TokensBegin syntax) lexemes place ⊎ (IsUnfinished (TokensBegin syntax) (TokensComplete syntax) lexemes × (place ≡ size))

  -- the place of a syntax fault among the tokens of a cut
  pub misplaced_in : (source : List ℕ) (lexemes : List (Lexeme Kind)) (place : ℕ) → IsCut syntax.format source lexemes → IsMisplaced syntax.format (TokensBegin syntax) (TokensComplete syntax) source place
      → IsMisplacedIn lexemes (length source) place
  misplaced_in source lexemes place cut misplaced =
      subst (λ list. IsMisplacedIn list (length source) place) (one_cut syntax.format exact source misplaced.lexemes lexemes misplaced.cut cut) misplaced.fault_there

  misplaced_one : (lexemes : List (Lexeme Kind)) (size place other : ℕ) → IsMisplacedIn lexemes size place → IsMisplacedIn lexemes size other → place ≡ other
  misplaced_one lexemes size place other (inl a) (inl b) = wrong_one syntax lexemes place other a b
  misplaced_one lexemes size place other (inl a) (inr b) = absurd (wrong_ends syntax lexemes place a b.0.begun)
  misplaced_one lexemes size place other (inr a) (inl b) = absurd (wrong_ends syntax lexemes other b a.0.begun)
  misplaced_one lexemes size place other (inr a) (inr b) = a.1 ∙ sym b.1

  -- a syntax fault has one place
  one_place : (source : List ℕ) (place other : ℕ) → IsMisplaced syntax.format (TokensBegin syntax) (TokensComplete syntax) source place → IsMisplaced syntax.format (TokensBegin syntax) (TokensComplete syntax) source other → place ≡ other
  one_place source place other a b =
      misplaced_one b.lexemes (length source) place other (misplaced_in source b.lexemes place b.cut a) b.fault_there

  misplaced_apart : (lexemes : List (Lexeme Kind)) (size place : ℕ) (raw : Raw) → IsMisplacedIn lexemes size place → TokensSpell syntax lexemes raw → ⊥
  misplaced_apart lexemes size place raw (inl wrong) text =
      wrong_ends syntax lexemes place wrong
      (([], raw, subst (λ list. syntax.spells list raw) (sym (append-nil (map syntax.symbol lexemes))) text))
  misplaced_apart lexemes size place raw (inr unfinished) text = unfinished.0.partial (raw, text)

  -- what is written has no fault
  pub texts_have_no_fault : TextsHaveNoFault syntax
  texts_have_no_fault source raw (Lex at) short text fault = not_both syntax.format exact source text.lexemes (Lex at) text.cut fault.1
  texts_have_no_fault source raw (Number at) short text fault = not_both syntax.format exact source text.lexemes (Number at) text.cut fault.1
  texts_have_no_fault source raw (SyntaxFault at) short text fault =
      misplaced_apart text.lexemes (length source) at raw (misplaced_in source text.lexemes at text.cut fault.1) text.text
  texts_have_no_fault source raw TooLong short text fault = both_lengths (length source) short fault

  -- a text has at most one fault
  pub text_faults_are_one : TextFaultsAreOne syntax
  text_faults_are_one source (Lex a) (Lex b) x y = one_fault syntax.format exact source (Lex a) (Lex b) x.1 y.1
  text_faults_are_one source (Lex a) (Number b) x y = one_fault syntax.format exact source (Lex a) (Number b) x.1 y.1
  text_faults_are_one source (Lex a) (SyntaxFault b) x y = absurd (not_both syntax.format exact source y.1.lexemes (Lex a) y.1.cut x.1)
  text_faults_are_one source (Lex a) TooLong x y = absurd (both_lengths (length source) x.0 y)
  text_faults_are_one source (Number a) (Lex b) x y = one_fault syntax.format exact source (Number a) (Lex b) x.1 y.1
  text_faults_are_one source (Number a) (Number b) x y = one_fault syntax.format exact source (Number a) (Number b) x.1 y.1
  text_faults_are_one source (Number a) (SyntaxFault b) x y = absurd (not_both syntax.format exact source y.1.lexemes (Number a) y.1.cut x.1)
  text_faults_are_one source (Number a) TooLong x y = absurd (both_lengths (length source) x.0 y)
  text_faults_are_one source (SyntaxFault a) (Lex b) x y = absurd (not_both syntax.format exact source x.1.lexemes (Lex b) x.1.cut y.1)
  text_faults_are_one source (SyntaxFault a) (Number b) x y = absurd (not_both syntax.format exact source x.1.lexemes (Number b) x.1.cut y.1)
  text_faults_are_one source (SyntaxFault a) (SyntaxFault b) x y = ap SyntaxFault (one_place source a b x.1 y.1)
  text_faults_are_one source (SyntaxFault a) TooLong x y = absurd (both_lengths (length source) x.0 y)
  text_faults_are_one source TooLong (Lex b) x y = absurd (both_lengths (length source) y.0 x)
  text_faults_are_one source TooLong (Number b) x y = absurd (both_lengths (length source) y.0 x)
  text_faults_are_one source TooLong (SyntaxFault b) x y = absurd (both_lengths (length source) y.0 x)
  text_faults_are_one source TooLong TooLong x y = refl
