-- The places of tokens, and of a syntax fault among them.
use Rattle.std.proofs.Common.{ℕ, ◌<◌, ◌≤◌, ◌↔◌, inl, inr, List, [], ◌∷◌, ◌++◌, length, refl, ap, ◌∙◌, subst, append_assoc, arith}
use Rattle.omega_text.specs.Cut.{Cuts}
use Rattle.omega_text.specs.Format.{TextFormat, GoesOneWay}
use Rattle.omega_text.specs.Lexeme.{Lexeme}
use Rattle.omega_text.specs.Syntax.{IsWrongAt, Syntax, SyntaxFaultsAreFirst, TokensBegin}
use Rattle.omega_text.proofs.syntaxes.Faults.{misplaced_in}
use Rattle.omega_text.proofs.syntaxes.Fronts.{begins_through, cases_split}

module _ {Kind : Type 0} (format : TextFormat Kind) (exact : GoesOneWay format) where
  -- a token of a cut begins at its place or after it
  following : (source : List ℕ) (from to : ℕ) (front rest : List (Lexeme Kind)) (token : Lexeme Kind) → Cuts format source from (front ++ token ∷ rest) to → from ≤ token.span.start
  following source from to [] rest token cuts = (exact.following source from token cuts.0).forward
  following source from to (one ∷ front) rest token cuts =
      let part = exact.following source from one cuts.0 in
      let later = following source one.span.end to front rest token cuts.1 in
      omega (arith, part.forward, part.nonempty, later)

  -- a token of a cut begins before those after it
  pub ordered : (source : List ℕ) (from to : ℕ) (front more rest : List (Lexeme Kind)) (token other : Lexeme Kind)
      → Cuts format source from (front ++ token ∷ (more ++ other ∷ rest)) to → token.span.start < other.span.start
  ordered source from to [] more rest token other cuts =
      let part = exact.following source from token cuts.0 in
      let later = following source token.span.end to more rest other cuts.1 in
      omega (arith, part.nonempty, later)
  ordered source from to (one ∷ front) more rest token other cuts = ordered source one.span.end to front more rest token other cuts.1

  -- a token of a cut begins within the text
  pub within : (source : List ℕ) (from to : ℕ) (front rest : List (Lexeme Kind)) (token : Lexeme Kind) → Cuts format source from (front ++ token ∷ rest) to → token.span.start < length source
  within source from to [] rest token cuts = let part = exact.following source from token cuts.0 in omega (arith, part.nonempty, part.within)
  within source from to (one ∷ front) rest token cuts = within source one.span.end to front rest token cuts.1

module _ {Kind Symbol Raw : Type 0} (syntax : Syntax Kind Symbol Raw) (exact : GoesOneWay syntax.format) where
  -- a text begins through a token exactly if it comes before the first wrong one
  first_wrong : (source : List ℕ) (to place : ℕ) (front rest : List (Lexeme Kind)) (token : Lexeme Kind)
      → Cuts syntax.format source 0 (front ++ token ∷ rest) to → IsWrongAt (TokensBegin syntax) (front ++ token ∷ rest) place
      → TokensBegin syntax (front ++ token ∷ []) ↔ (token.span.start < place)
  first_wrong source to place front rest token cuts wrong =
      elim (cases_split front wrong.front token wrong.wrong rest wrong.rest wrong.split)
      as (λ _. TokensBegin syntax (front ++ token ∷ []) ↔ (token.span.start < place)) [
        | inl same ↦ (
          (λ begins. absurd (wrong.ends_there (subst (λ list. TokensBegin syntax list)
              (ap (λ list. list ++ token ∷ []) same.0 ∙ ap (λ one. wrong.front ++ one ∷ []) same.1) begins))),
          (λ before. absurd (omega (arith, wrong.there, ap (λ (one : Lexeme Kind). one.span.start) same.1))),
        )
        | inr on ↦ elim on as (λ _. TokensBegin syntax (front ++ token ∷ []) ↔ (token.span.start < place)) [
          | inl ahead ↦ (
            (λ begins. let before : token.span.start < wrong.wrong.span.start =
                ordered syntax.format exact source 0 to front ahead.0 wrong.rest token wrong.wrong
                (subst (λ list. Cuts syntax.format source 0 list to)
                (wrong.split ∙ ap (λ list. list ++ wrong.wrong ∷ wrong.rest) ahead.1 ∙ append_assoc front (token ∷ ahead.0) (wrong.wrong ∷ wrong.rest)) cuts)
                in omega (arith, wrong.there)),
            (λ before. begins_through syntax front wrong.front token ahead wrong.begins_before),
          )
          | inr past ↦ (
            (λ begins. absurd (wrong.ends_there (begins_through syntax wrong.front (front ++ token ∷ []) wrong.wrong
                (past.0 ++ token ∷ [], ap (λ list. list ++ token ∷ []) past.1 ∙ append_assoc wrong.front (wrong.wrong ∷ past.0) (token ∷ [])) begins))),
            (λ before. let after : wrong.wrong.span.start < token.span.start =
                ordered syntax.format exact source 0 to wrong.front past.0 rest wrong.wrong token
                (subst (λ list. Cuts syntax.format source 0 list to)
                (ap (λ list. list ++ token ∷ rest) past.1 ∙ append_assoc wrong.front (wrong.wrong ∷ past.0) (token ∷ rest)) cuts)
                in absurd (omega (arith, wrong.there))),
          )
        ]
      ]

  -- and exactly if it comes before the place of a syntax fault
  pub faults_first : SyntaxFaultsAreFirst syntax
  faults_first source place front rest token fault cut =
      elim (misplaced_in syntax exact source (front ++ token ∷ rest) place cut fault.1)
      as (λ _. TokensBegin syntax (front ++ token ∷ []) ↔ (token.span.start < place)) [
        | inl wrong ↦ first_wrong source cut.end place front rest token cut.cuts wrong
        | inr unfinished ↦ (
          (λ begins. let before : token.span.start < length source = within syntax.format exact source 0 cut.end front rest token cut.cuts in omega (arith, unfinished.1)),
          (λ before. begins_through syntax front (front ++ token ∷ rest) token (rest, refl) unfinished.0.begun),
        )
      ]
