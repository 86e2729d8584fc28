-- Cuts, piece by piece, and that each text has one or a fault.
use Rattle.std.proofs.Common.{◌≡◌, ◌∙◌, ℕ, zero, suc, ◌+◌, ◌≤◌, ◌⊎◌, inl, inr, ⊎_elim, List, [], ◌∷◌, ◌++◌, length, map, refl, sym, subst, arith}
use Rattle.std.proofs.lemmas.List.{map_push}
use Rattle.std.specs.Prelude.{Result, Ok, Err, IfErr, OnOk}
use Rattle.omega_text.specs.Cut.{CutOrFault, Cuts, IsCut, IsFault}
use Rattle.omega_text.specs.Format.{TextFormat, GoesOneWay}
use Rattle.omega_text.specs.Lexeme.{Lexeme, lexeme_of}
use Rattle.omega_text.specs.private.Left.{IsFaultFrom, IsRestOfText}
use Rattle.omega_text.specs.declared.refusal.text.TextFault.{TextFault}
use Rattle.omega_text.specs.declared.token.Token.{Token}

-- some tokens are the text from one place up to another
pub record IsCutTo {Kind : Type 0} (format : TextFormat Kind) (source : List ℕ) (from to : ℕ) : Type 0 where
  pub lexemes : List (Lexeme Kind)
  pub cuts : Cuts format source from lexemes to

module _ {Kind : Type 0} (format : TextFormat Kind) where
  -- a cut of tokens one after the other is that of the first, and of the others from where it ends
  pub cuts_split : (source : List ℕ) (from to : ℕ) (front back : List (Lexeme Kind)) → Cuts format source from (front ++ back) to
      → (middle : ℕ) × Cuts format source from front middle × Cuts format source middle back to
  cuts_split source from to [] back cuts = (from, refl, cuts)
  cuts_split source from to (lexeme ∷ front) back cuts =
      let parts = cuts_split source lexeme.span.end to front back cuts.1 in
      (parts.0, (cuts.0, parts.1), parts.2)

  -- a cut ends at one place
  pub cuts_end : (source : List ℕ) (from one other : ℕ) (lexemes : List (Lexeme Kind)) → Cuts format source from lexemes one → Cuts format source from lexemes other → one ≡ other
  cuts_end source from one other [] here there = sym here ∙ there
  cuts_end source from one other (lexeme ∷ lexemes) here there = cuts_end source lexeme.span.end one other lexemes here.1 there.1

  -- two cuts, one after the other, are a cut
  pub cuts_join : (source : List ℕ) (from middle to : ℕ) (front back : List (Lexeme Kind)) → Cuts format source from front middle → Cuts format source middle back to → Cuts format source from (front ++ back) to
  cuts_join source from middle to [] back is cuts = subst (λ n. Cuts format source n back to) (sym is) cuts
  cuts_join source from middle to (lexeme ∷ front) back first second = (first.0, cuts_join source lexeme.span.end middle to front back first.1 second)

  -- a cut goes on with a lexeme that follows it
  pub cuts_more : (source : List ℕ) (from at : ℕ) (lexemes : List (Lexeme Kind)) (lexeme : Lexeme Kind) → Cuts format source from lexemes at → format.follows source at lexeme → Cuts format source from (lexemes ++ lexeme ∷ []) lexeme.span.end
  cuts_more source from at lexemes lexeme cuts follows = cuts_join source from at lexeme.span.end lexemes (lexeme ∷ []) cuts (follows, refl)

  -- and so does one whose tokens are not named
  pub cut_more : (source : List ℕ) (from at : ℕ) (lexeme : Lexeme Kind) → IsCutTo format source from at → format.follows source at lexeme → IsCutTo format source from lexeme.span.end
  cut_more source from at lexeme cut follows = record { lexemes = cut.lexemes ++ lexeme ∷ []; cuts = cuts_more source from at cut.lexemes lexeme cut.cuts follows }

  -- what is said of the rest of a text from its first place on is said of the text
  pub cut_from_start : (source : List ℕ) (result : Result (Unit {0}) TextFault)
      → OnOk result ((lexemes : List (Lexeme Kind)) × IsRestOfText format source 0 lexemes) → OnOk result ((lexemes : List (Lexeme Kind)) × IsCut format source lexemes)
  cut_from_start source (Ok done) rest = (rest.0, record { end = rest.1.end; cuts = rest.1.cuts; rest = rest.1.rest })
  cut_from_start source (Err fault) rest = tt

  -- and so is its fault
  pub fault_from_start : (source : List ℕ) (result : Result (Unit {0}) TextFault) → IfErr result (IsFaultFrom format source 0) → IfErr result (IsFault format source)
  fault_from_start source (Ok done) none = tt
  fault_from_start source (Err fault) found = record { lexemes = found.lexemes; end = found.end; cuts = found.cuts; faults = found.fault_there }

  -- the same of tokens
  pub cuts_push : (source : List ℕ) (tokens : List (Token Kind)) (at : ℕ) (token : Token Kind) → Cuts format source 0 (map lexeme_of tokens) at → format.follows source at (lexeme_of token) → Cuts format source 0 (map lexeme_of (tokens ++ token ∷ [])) token.span.end
  cuts_push source tokens at token cuts follows =
      subst (λ lexemes. Cuts format source 0 lexemes token.span.end) (sym (map_push lexeme_of tokens token))
      (cuts_more source 0 at (map lexeme_of tokens) (lexeme_of token) cuts follows)

-- from a place on, a text is cut to its end or to a fault
abbrev pub CutFrom : {Kind : Type 0} → TextFormat Kind → List ℕ → ℕ → Type 0
CutFrom {Kind} format source from = ((lexemes : List (Lexeme Kind)) × (to : ℕ) × Cuts format source from lexemes to × format.ends source to)
    ⊎ ((lexemes : List (Lexeme Kind)) × (to : ℕ) × (fault : TextFault) × Cuts format source from lexemes to × format.faults source to fault)

module _ {Kind : Type 0} (format : TextFormat Kind) (exact : GoesOneWay format) where
  -- a cut ends where it begins or after it, within the text
  pub cuts_forward : (source : List ℕ) (from to : ℕ) (lexemes : List (Lexeme Kind)) → from ≤ length source → Cuts format source from lexemes to
      → (from ≤ to) × (to ≤ length source)
  cuts_forward source from to [] within cuts = (omega (arith, cuts), omega (arith, cuts))
  cuts_forward source from to (lexeme ∷ lexemes) within cuts =
      let part = exact.following source from lexeme cuts.0 in
      let rest = cuts_forward source lexeme.span.end to lexemes part.within cuts.1 in
      (omega (arith, part.forward, part.nonempty, rest.0), rest.1)

  -- if a token follows, a longer text is left than after it
  shorter : (left : ℕ) (source : List ℕ) (from : ℕ) (lexeme : Lexeme Kind) → format.follows source from lexeme → length source ≤ from + suc left
      → (lexeme.span.end ≤ length source) × (length source ≤ lexeme.span.end + left)
  shorter left source from lexeme follows all =
      let part = exact.following source from lexeme follows in
      (part.within, omega (arith, part.forward, part.nonempty, all))

  -- a text that is not longer than a number
  pub cut_from : (left : ℕ) (source : List ℕ) (from : ℕ) → from ≤ length source → length source ≤ from + left → CutFrom format source from
  cut_from zero source from inside all = ⊎_elim
      (λ end. inl ([], from, refl, end))
      (⊎_elim
      (λ token. absurd (let part = exact.following source from token.0 token.1 in omega (arith, part.forward, part.nonempty, part.within)))
      (λ fault. inr ([], from, fault.0, refl, fault.1)))
      (exact.some_way source from inside)
  cut_from (suc left) source from inside all = ⊎_elim
      (λ end. inl ([], from, refl, end))
      (⊎_elim
      (λ token. let less = shorter left source from token.0 token.1 all in ⊎_elim
      (λ cut. inl (token.0 ∷ cut.0, cut.1, (token.1, cut.2), cut.3))
      (λ faulty. inr (token.0 ∷ faulty.0, faulty.1, faulty.2, (token.1, faulty.3), faulty.4))
      (cut_from left source token.0.span.end less.0 less.1))
      (λ fault. inr ([], from, fault.0, refl, fault.1)))
      (exact.some_way source from inside)

  -- a text has a cut or a fault
  pub cut_or_fault : CutOrFault format
  cut_or_fault source = ⊎_elim
      (λ cut. inl (cut.0, record { end = cut.1; cuts = cut.2; rest = cut.3 }))
      (λ faulty. inr (faulty.2, record { lexemes = faulty.0; end = faulty.1; cuts = faulty.3; faults = faulty.4 }))
      (cut_from (length source) source 0 (omega arith) (omega arith))
