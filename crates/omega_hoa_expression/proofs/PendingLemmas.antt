-- What is pending, by what is on top.
use Rattle.std.proofs.Common.{◌≡◌, ℕ, Option, Some, None, MatchOption, List, [], ◌∷◌, ap, refl, subst, sym, ◌∙◌}
use Rattle.omega_hoa_expression.specs.declared.pending.Pending.{Pending}
use Rattle.omega_hoa_expression.specs.declared.pending.Pending.TheVariants.{And, Not, Open, Or}

-- what is pending below the top
abbrev pub below : List Pending → List Pending
below [] = []
below (pending ∷ rest) = rest

-- the depth that the top keeps
abbrev pub kept : List Pending → ℕ
kept (And depth ∷ rest) = depth
kept (Or depth ∷ rest) = depth
kept pending = 0

-- what is on top
pub data Top : Type 0 where
  nothing : Top
  parenthesis : Top
  bar : Top
  conjunct : Top
  disjunct : Top

abbrev pub top : List Pending → Top
top [] = nothing
top (Open ∷ rest) = parenthesis
top (Not ∷ rest) = bar
top (And depth ∷ rest) = conjunct
top (Or depth ∷ rest) = disjunct

abbrev pub IsBar : Top → Type 0
IsBar bar = Unit {0}
IsBar other = ⊥

abbrev pub IsConjunct : Top → Type 0
IsConjunct conjunct = Unit {0}
IsConjunct other = ⊥

abbrev pub IsDisjunct : Top → Type 0
IsDisjunct disjunct = Unit {0}
IsDisjunct other = ⊥

abbrev pub IsParenthesis : Top → Type 0
IsParenthesis parenthesis = Unit {0}
IsParenthesis other = ⊥

abbrev pub IsNothing : Top → Type 0
IsNothing nothing = Unit {0}
IsNothing other = ⊥

-- neither `!` nor `&` is on top
abbrev pub IsLoose : List Pending → Type 0
IsLoose (Not ∷ rest) = ⊥
IsLoose (And depth ∷ rest) = ⊥
IsLoose pending = Unit {0}

-- no operator is on top
abbrev pub IsFree : List Pending → Type 0
IsFree [] = Unit {0}
IsFree (Open ∷ rest) = Unit {0}
IsFree pending = ⊥

-- what neither `!` nor `&` is
pub loose_others : (pending : Pending) (rest : List Pending) → (pending ≡ Not → ⊥) → ((depth : ℕ) → pending ≡ And depth → ⊥) → IsLoose (pending ∷ rest)
loose_others Open rest not_not not_and = tt
loose_others Not rest not_not not_and = not_not refl
loose_others (And depth) rest not_not not_and = not_and depth refl
loose_others (Or depth) rest not_not not_and = tt

-- nor `|`
pub free_others : (pending : Pending) (rest : List Pending) → IsLoose (pending ∷ rest) → ((depth : ℕ) → pending ≡ Or depth → ⊥) → IsFree (pending ∷ rest)
free_others Open rest loose not_or = tt
free_others Not rest loose not_or = loose
free_others (And depth) rest loose not_or = loose
free_others (Or depth) rest loose not_or = not_or depth refl

-- only a parenthesis is free
pub free_open : (pending : Pending) (rest : List Pending) → IsFree (pending ∷ rest) → pending ≡ Open
free_open Open rest free = refl
free_open Not rest free = absurd free
free_open (And depth) rest free = absurd free
free_open (Or depth) rest free = absurd free

abbrev IsEmpty : List Pending → Type 0
IsEmpty [] = Unit {0}
IsEmpty (pending ∷ rest) = ⊥

-- what is on top is taken
pub popped : (result : Option Pending) (old new : List Pending) (first shape : Pending) (rest : List Pending) → old ≡ first ∷ rest → first ≡ shape
    → MatchOption result ((old ≡ []) × (new ≡ [])) (λ pending. old ≡ pending ∷ new) → old ≡ shape ∷ new
popped None old new first shape rest is same none = absurd (subst IsEmpty (sym none.0 ∙ is) tt)
popped (Some pending) old new first shape rest is same taken = is ∙ (ap (λ p. p ∷ rest) same ∙ ap (λ more. shape ∷ more) (ap below (sym is ∙ taken)))
