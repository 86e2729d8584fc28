-- Lists joined after two parts and an operator.
use Rattle.std.specs.Prelude.{◌≡◌, List, [], ◌∷◌, ◌++◌}
use Rattle.std.proofs.Common.{append_assoc, ap, ◌∙◌}

-- two parts, an operator and what follows them
pub regrouped : {A : Type 0} (left right : List A) (operator : A) (rest : List A)
    → (left ++ (right ++ operator ∷ [])) ++ rest ≡ left ++ (right ++ operator ∷ rest)
regrouped left right operator rest = append_assoc left (right ++ operator ∷ []) rest
    ∙ ap (λ following. left ++ following) (append_assoc right (operator ∷ []) rest)
