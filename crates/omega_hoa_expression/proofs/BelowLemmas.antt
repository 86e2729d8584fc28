-- A list that passes a test, and what ends in one that passes.
use Rattle.std.proofs.Common.{◌≡◌, true, false, ◌&&◌, List, [], ◌∷◌, ◌++◌, ap, refl, ◌∙◌, Bool}
use Rattle.std.specs.List.{list_all}
use Rattle.std.proofs.lemmas.List.Folds.{list_all-append}

and_true : (b : Bool) → (b && true) ≡ b
and_true true = refl
and_true false = refl

-- a list and one that passes
pub all-last : {A : Type 0} (test : A → Bool) (items : List A) (last : A) → test last ≡ true → list_all test (items ++ last ∷ []) ≡ list_all test items
all-last test items last passes =
    list_all-append test items (last ∷ [])
    ∙ (ap (λ b. list_all test items && (b && true)) passes ∙ and_true (list_all test items))

-- two lists and one that passes
pub all-joined : {A : Type 0} (test : A → Bool) (left right : List A) (last : A) → test last ≡ true
    → list_all test (left ++ (right ++ last ∷ [])) ≡ (list_all test left && list_all test right)
all-joined test left right last passes =
    list_all-append test left (right ++ last ∷ []) ∙ ap (λ b. list_all test left && b) (all-last test right last passes)
