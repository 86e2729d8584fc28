-- The first that comes twice, element by element.
use Rattle.std.proofs.Common.{◌≡◌, ℕ, suc, ◌+◌, ◌<◌, Bool, true, false, not, cond, Option, Some, List, [], ◌∷◌, ◌++◌, length, get_or, drop, drop-cons, add-one, ap, sym, ◌∙◌, subst}
use Rattle.std.specs.List.{list_any}
use Rattle.std.proofs.lemmas.Bool.{not-false, not-true}
use Rattle.omega_hoa_diagnostics.specs.Finding.{first_repeat}

-- an element and those after it
pub next_of : {X : Type 0} (xs : List X) (i : ℕ) (x d : X) → i < length xs → x ≡ get_or xs i d → drop i xs ≡ x ∷ drop (i + 1) xs
next_of xs i x d within is = rw (add-one, drop-cons xs i d) (ap (λ first. first ∷ drop (suc i) xs) (sym is))

-- the element came before, and is the first that did
pub repeat_here : {X : Type 0} (same : X → X → Bool) (keys xs : List X) (i : ℕ) (x d : X) (added : Bool) (found : Option X) → i < length xs
    → x ≡ get_or xs i d → added ≡ not (list_any (same x) keys) → added ≡ false → first_repeat same keys (drop i xs) ≡ found → Some x ≡ found
repeat_here same keys xs i x d added found within is says old so_far =
    let came : list_any (same x) keys ≡ true = not-false (list_any (same x) keys) (sym says ∙ old) in
    sym (ap (λ b. cond b (Some x) (first_repeat same (keys ++ x ∷ []) (drop (i + 1) xs))) came)
    ∙ subst (λ left. first_repeat same keys left ≡ found) (next_of xs i x d within is) so_far

-- the element did not come before
pub repeat_later : {X : Type 0} (same : X → X → Bool) (keys more xs : List X) (i : ℕ) (x d : X) (added : Bool) (found : Option X) → i < length xs
    → x ≡ get_or xs i d → added ≡ not (list_any (same x) keys) → added ≡ true → more ≡ cond (list_any (same x) keys) keys (keys ++ x ∷ [])
    → first_repeat same keys (drop i xs) ≡ found → first_repeat same more (drop (i + 1) xs) ≡ found
repeat_later same keys more xs i x d added found within is says new put so_far =
    let fresh : list_any (same x) keys ≡ false = not-true (list_any (same x) keys) (sym says ∙ new) in
    let kept : more ≡ keys ++ x ∷ [] = put ∙ ap (λ b. cond b keys (keys ++ x ∷ [])) fresh in
    ap (λ these. first_repeat same these (drop (i + 1) xs)) kept
    ∙ sym (ap (λ b. cond b (Some x) (first_repeat same (keys ++ x ∷ []) (drop (i + 1) xs))) fresh)
    ∙ subst (λ left. first_repeat same keys left ≡ found) (next_of xs i x d within is) so_far
