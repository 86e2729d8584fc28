-- The items of a list that pass a test, where the first of them is known.
use Rattle.std.proofs.Common.{◌≡◌, ℕ, zero, suc, ◌+◌, ◌-◌, ◌<◌, Bool, true, false, List, [], ◌∷◌, ◌++◌, length, get_or, take, drop, refl, ap, sym, ◌∙◌, arith, add-one, drop-cons, length-drop}
use Rattle.std.specs.List.{filter, list_any}
use Rattle.std.proofs.lemmas.Bool.{false≢true}
use Rattle.std.proofs.lemmas.List.{take-append-drop, take_all}
use Rattle.std.proofs.lemmas.List.Elements.{filter-append}

-- the first item that passes, and then those after it
pub filter_from : {X : Type 0} (p : X → Bool) (xs : List X) (at : ℕ) (x : X) → at < length xs → x ≡ get_or xs at x
    → p x ≡ true → filter p (take at xs) ≡ [] → filter p xs ≡ x ∷ filter p (drop (suc at) xs)
filter_from {X} p xs at x below here passes none =
    ap (filter p) (sym (take-append-drop at xs)) ∙ filter-append p (take at xs) (drop at xs)
    ∙ ap (λ (ys : List X). ys ++ filter p (drop at xs)) none
    ∙ ap (filter p) (drop-cons xs at x below ∙ ap (λ (y : X). y ∷ drop (suc at) xs) (sym here)) ∙ first p x (drop (suc at) xs) passes
  where
    first : {X : Type 0} (p : X → Bool) (x : X) (ys : List X) → p x ≡ true → filter p (x ∷ ys) ≡ x ∷ filter p ys
    first p x ys passes = rw passes refl

-- no item passes
pub filter_none : {X : Type 0} (p : X → Bool) (xs : List X) → list_any p xs ≡ false → filter p xs ≡ []
filter_none p [] none = refl
filter_none p (x ∷ xs) none = elim (p x) as (λ b. p x ≡ b → filter p (x ∷ xs) ≡ []) [
  | true ↦ λ here. absurd (false≢true (sym none ∙ rw here refl))
  | false ↦ λ here. rw here (filter_none p xs (rw here at none))
] refl

-- some item passes
pub filter_some : {X : Type 0} (p : X → Bool) (xs : List X) → list_any p xs ≡ true → 0 < length (filter p xs)
filter_some p [] some = absurd (false≢true some)
filter_some p (x ∷ xs) some = elim (p x) as (λ b. p x ≡ b → 0 < length (filter p (x ∷ xs))) [
  | true ↦ λ here. rw here (omega arith)
  | false ↦ λ here. rw here (filter_some p xs (rw here at some))
] refl

-- the item at an index, whatever stands for none
pub same_item : {X : Type 0} (xs : List X) (k : ℕ) (d e : X) → k < length xs → get_or xs k d ≡ get_or xs k e
same_item [] k d e below = absurd (omega arith)
same_item (x ∷ xs) zero d e below = refl
same_item (x ∷ xs) (suc k) d e below = same_item xs k d e (omega arith)

-- the items after one
pub items_after : {X : Type 0} (xs : List X) (k : ℕ) → drop (suc k) xs ≡ take (length xs - (k + 1)) (drop (k + 1) xs)
items_after {X} xs k =
    ap (λ (n : ℕ). drop n xs) (sym (add-one k)) ∙ sym (take_all (length xs - (k + 1)) (drop (k + 1) xs) (omega (arith, length-drop (k + 1) xs)))
