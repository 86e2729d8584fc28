-- Fronts of a list of tokens, and at which places a grammar rules them out.
use Rattle.std.proofs.Common.{◌≡◌, ℕ, ◌⊎◌, inl, inr, List, [], ◌∷◌, ◌++◌, map, refl, ap, sym, ◌∙◌, subst, append_assoc}
use Rattle.std.proofs.lemmas.List.{map-append}
use Rattle.omega_text.specs.Lexeme.{Lexeme}
use Rattle.omega_text.specs.Syntax.{IsWrongAt, Syntax, TokensBegin}

-- the front of one split goes on with its element
abbrev pub GoesOn : {A : Type 0} → List A → A → List A → Type 0
GoesOn {A} front x whole = (more : List A) × (whole ≡ front ++ x ∷ more)

-- two splits of a list are one, or one front goes on to the other
pub cases_split : {A : Type 0} (f g : List A) (x y : A) (r s : List A) → f ++ x ∷ r ≡ g ++ y ∷ s
    → ((f ≡ g) × (x ≡ y)) ⊎ (GoesOn f x g ⊎ GoesOn g y f)
cases_split [] [] x y r s e = inl (refl, cc)
cases_split [] (b ∷ g) x y r s e = inr (inl (g, cc))
cases_split (a ∷ f) [] x y r s e = inr (inr (f, cc))
cases_split {A} (a ∷ f) (b ∷ g) x y r s e =
    let head : a ≡ b = cc in
    let tail : f ++ x ∷ r ≡ g ++ y ∷ s = cc in
    elim (cases_split f g x y r s tail) as (λ _. ((a ∷ f ≡ b ∷ g) × (x ≡ y)) ⊎ (GoesOn (a ∷ f) x (b ∷ g) ⊎ GoesOn (b ∷ g) y (a ∷ f))) [
      | inl same ↦ inl (cc, same.1)
      | inr on ↦ elim on as (λ _. ((a ∷ f ≡ b ∷ g) × (x ≡ y)) ⊎ (GoesOn (a ∷ f) x (b ∷ g) ⊎ GoesOn (b ∷ g) y (a ∷ f))) [
        | inl one ↦ inr (inl (one.0, (let e : g ≡ f ++ x ∷ one.0 = one.1 in cc)))
        | inr other ↦ inr (inr (other.0, (let e : f ≡ g ++ y ∷ other.0 = other.1 in cc)))
      ]
    ]

-- the first wrong token stays so, whatever follows
pub wrong_more : {Kind : Type 0} (begins : List (Lexeme Kind) → Type 0) (lexemes more : List (Lexeme Kind)) (place : ℕ) → IsWrongAt begins lexemes place → IsWrongAt begins (lexemes ++ more) place
wrong_more begins lexemes more place there = record {
  front = there.front;
  wrong = there.wrong;
  rest = there.rest ++ more;
  split = ap (λ list. list ++ more) there.split ∙ append_assoc there.front (there.wrong ∷ there.rest) more;
  begins_before = there.begins_before;
  ends_there = there.ends_there;
  there = there.there;
}

module _ {Kind Symbol Raw : Type 0} (syntax : Syntax Kind Symbol Raw) where
  -- a front of what begins a text begins one
  pub begins_front : (front more : List (Lexeme Kind)) → TokensBegin syntax (front ++ more) → TokensBegin syntax front
  begins_front front more begins = (
    map syntax.symbol more ++ begins.0,
    begins.1,
    subst (λ list. syntax.spells list begins.1)
        (ap (λ list. list ++ begins.0) (map-append syntax.symbol front more)
        ∙ append_assoc (map syntax.symbol front) (map syntax.symbol more) begins.0)
        begins.2,
  )

  -- a front that goes on through a token begins a text through it
  pub begins_through : (front whole : List (Lexeme Kind)) (token : Lexeme Kind) → GoesOn front token whole → TokensBegin syntax whole
      → TokensBegin syntax (front ++ token ∷ [])
  begins_through front whole token on begins =
      begins_front (front ++ token ∷ []) on.0
      (subst (λ list. TokensBegin syntax list) (on.1 ∙ sym (append_assoc front (token ∷ []) on.0)) begins)

  -- the first wrong token is at one place
  pub wrong_one : (lexemes : List (Lexeme Kind)) (place other : ℕ) → IsWrongAt (TokensBegin syntax) lexemes place → IsWrongAt (TokensBegin syntax) lexemes other → place ≡ other
  wrong_one lexemes place other a b =
      elim (cases_split a.front b.front a.wrong b.wrong a.rest b.rest (sym a.split ∙ b.split)) as (λ _. place ≡ other) [
        | inl same ↦ a.there ∙ ap (λ (token : Lexeme Kind). token.span.start) same.1 ∙ sym b.there
        | inr on ↦ elim on as (λ _. place ≡ other) [
          | inl first ↦ absurd (a.ends_there (begins_through a.front b.front a.wrong first b.begins_before))
          | inr second ↦ absurd (b.ends_there (begins_through b.front a.front b.wrong second a.begins_before))
        ]
      ]

  -- what begins a text has no wrong token
  pub wrong_ends : (lexemes : List (Lexeme Kind)) (place : ℕ) → IsWrongAt (TokensBegin syntax) lexemes place → TokensBegin syntax lexemes → ⊥
  wrong_ends lexemes place there begins = there.ends_there (begins_through there.front lexemes there.wrong (there.rest, there.split) begins)
