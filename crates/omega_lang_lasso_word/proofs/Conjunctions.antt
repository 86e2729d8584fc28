-- The words of labels joined by `&`.
use Rattle.std.proofs.Common.{◌≡◌, ℕ, ◌<◌, List, [], ◌∷◌, ◌++◌, length, fold, codes, refl, sym, ◌∙◌, append_assoc, append-nil, arith}
use Rattle.omega_hoa_label.specs.Label.{LabelTree, conjunction}
use Rattle.omega_lang_lasso_word.specs.private.Infix.{further_words}
use Rattle.omega_lang_lasso_word.specs.Letters.{label_words}

-- a conjunction below `&` is its parts one after the other
joined_words : (names : List (List ℕ)) (first : LabelTree) (others : List LabelTree)
    → label_words 1 names (fold conjunction first others) ≡ label_words 1 names first ++ further_words names others
joined_words names first [] = sym (append-nil (label_words 1 names first))
joined_words names first (other ∷ others) =
    joined_words names (conjunction first other) others
    ∙ append_assoc (label_words 1 names first) (codes " & " ++ label_words 1 names other) (further_words names others)

-- it needs no parentheses there
unenclosed : (names : List (List ℕ)) (left right : LabelTree) (others : List LabelTree)
    → label_words 0 names (fold conjunction (conjunction left right) others) ≡ label_words 1 names (fold conjunction (conjunction left right) others)
unenclosed names left right [] = refl
unenclosed names left right (other ∷ others) = unenclosed names (conjunction left right) other others

-- at least two labels joined
pub several_words : (names : List (List ℕ)) (first : LabelTree) (others : List LabelTree) → 0 < length others
    → label_words 0 names (fold conjunction first others) ≡ label_words 1 names first ++ further_words names others
several_words names first [] some = absurd (omega (arith, some))
several_words names first (second ∷ others) some = unenclosed names first second others ∙ joined_words names first (second ∷ others)
