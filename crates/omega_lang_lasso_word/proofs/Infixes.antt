-- The words that the nodes of a label make are the label's.
use Rattle.std.proofs.Common.{◌≡◌, ℕ, List, [], ◌∷◌, ◌++◌, append-nil, append_assoc, ap, refl, sym, ◌∙◌, codes}
use Rattle.std.specs.List.{IsLastAndRest}
use Rattle.omega_hoa_label.specs.Label.{LabelTree, conjunction, constant, disjunction, negation, proposition}
use Rattle.omega_hoa_label.specs.Postfix.{postfix}
use Rattle.omega_hoa_label.specs.declared.label.LabelNode.{LabelNode}
use Rattle.omega_hoa_label.specs.declared.label.LabelNode.TheVariants.{And, Not, Or}
use Rattle.omega_lang_lasso_word.specs.private.Infix.{Words, atom_words, tightness_of, whole_words, words_after, words_at, words_with}
use Rattle.omega_lang_lasso_word.specs.Letters.{label_words}
use Rattle.omega_lang_lasso_word.specs.declared.signs.Above.{Above}
use Rattle.omega_lang_lasso_word.specs.declared.signs.Above.TheVariants as above
use Rattle.omega_lang_lasso_word.specs.declared.signs.Infix.{Infix}

-- two parts, an operator and what follows them
regrouped : (left right : List LabelNode) (operator : LabelNode) (rest : List LabelNode)
    → (left ++ (right ++ operator ∷ [])) ++ rest ≡ left ++ (right ++ operator ∷ rest)
regrouped left right operator rest =
    append_assoc left (right ++ operator ∷ []) rest ∙ ap (λ following. left ++ following) (append_assoc right (operator ∷ []) rest)

-- how tightly the top operator of a label binds
abbrev level_of : LabelTree → ℕ
level_of (constant value) = 2
level_of (proposition number) = 2
level_of (negation part) = 2
level_of (conjunction left right) = 1
level_of (disjunction left right) = 0

-- the part that a label is
abbrev part_of : List (List ℕ) → LabelTree → Words
part_of names tree = record { level = level_of tree; words = label_words 0 names tree }

-- its words below an operator
below-above : (over : Above) (names : List (List ℕ)) (tree : LabelTree)
    → words_at (tightness_of over) (part_of names tree) ≡ label_words (tightness_of over) names tree
below-above above.Loose names (constant value) = refl
below-above above.Loose names (proposition number) = refl
below-above above.Loose names (negation part) = refl
below-above above.Loose names (conjunction left right) = refl
below-above above.Loose names (disjunction left right) = refl
below-above above.And names (constant value) = refl
below-above above.And names (proposition number) = refl
below-above above.And names (negation part) = refl
below-above above.And names (conjunction left right) = refl
below-above above.And names (disjunction left right) = refl
below-above above.Not names (constant value) = refl
below-above above.Not names (proposition number) = refl
below-above above.Not names (negation part) = refl
below-above above.Not names (conjunction left right) = refl
below-above above.Not names (disjunction left right) = refl

-- two parts and their operator
words-joined : (names : List (List ℕ)) (level : ℕ) (left right one other operator : List ℕ) (parts : List Words) (rest : List LabelNode)
    → left ≡ one → right ≡ other
    → words_after names (record { level = level; words = left ++ (operator ++ right) } ∷ parts) rest
    ≡ words_after names (record { level = level; words = one ++ (operator ++ other) } ∷ parts) rest
words-joined names level left right one other operator parts rest is_left is_right =
    ap (λ (front : List ℕ). words_after names (record { level = level; words = front ++ (operator ++ right) } ∷ parts) rest) is_left
    ∙ ap (λ (back : List ℕ). words_after names (record { level = level; words = one ++ (operator ++ back) } ∷ parts) rest) is_right

-- a label's nodes leave the part that it is
words-postfix : (names : List (List ℕ)) (tree : LabelTree) (parts : List Words) (rest : List LabelNode)
    → words_after names parts (postfix tree ++ rest) ≡ words_after names (part_of names tree ∷ parts) rest
words-postfix names (constant value) parts rest = refl
words-postfix names (proposition number) parts rest = refl
words-postfix names (negation part) parts rest =
    ap (words_after names parts) (append_assoc (postfix part) (Not ∷ []) rest)
    ∙ (words-postfix names part parts (Not ∷ rest)
    ∙ ap (λ (words : List ℕ). words_after names (atom_words (codes "!" ++ words) ∷ parts) rest) (below-above above.Not names part))
words-postfix names (conjunction left right) parts rest =
    ap (words_after names parts) (regrouped (postfix left) (postfix right) And rest)
    ∙ (words-postfix names left parts (postfix right ++ And ∷ rest)
    ∙ (words-postfix names right (part_of names left ∷ parts) (And ∷ rest)
    ∙ words-joined names 1 _ _ _ _ (codes " & ") parts rest (below-above above.And names left) (below-above above.And names right)))
words-postfix names (disjunction left right) parts rest =
    ap (words_after names parts) (regrouped (postfix left) (postfix right) Or rest)
    ∙ (words-postfix names left parts (postfix right ++ Or ∷ rest)
    ∙ (words-postfix names right (part_of names left ∷ parts) (Or ∷ rest)
    ∙ words-joined names 0 _ _ _ _ (codes " | ") parts rest (below-above above.Loose names left) (below-above above.Loose names right)))

-- alone
words-label : (names : List (List ℕ)) (tree : LabelTree) (nodes : List LabelNode) → nodes ≡ postfix tree
    → words_after names [] nodes ≡ part_of names tree ∷ []
words-label names tree nodes flat =
    ap (words_after names []) (flat ∙ sym (append-nil (postfix tree))) ∙ words-postfix names tree [] []

-- so what is made of all its nodes are its words below the operator
pub words-whole : (over : Above) (names : List (List ℕ)) (tree : LabelTree) (nodes : List LabelNode) (text : Infix) → nodes ≡ postfix tree
    → ((part : Words) → whole_words names text (part ∷ []) ≡ words_at (tightness_of over) part)
    → whole_words names text (words_after names [] nodes) ≡ label_words (tightness_of over) names tree
words-whole over names tree nodes text flat started =
    ap (whole_words names text) (words-label names tree nodes flat)
    ∙ (started (part_of names tree) ∙ below-above over names tree)

-- what the last node makes of the parts of those before it
words-append : (names : List (List ℕ)) (front : List LabelNode) (parts : List Words) (rest : List LabelNode)
    → words_after names parts (front ++ rest) ≡ words_after names (words_after names parts front) rest
words-append names [] parts rest = refl
words-append names (node ∷ front) parts rest = words-append names front (words_with names parts node) rest

pub words-last : (names : List (List ℕ)) (nodes before : List LabelNode) (last : LabelNode) → IsLastAndRest nodes last before
    → words_with names (words_after names [] before) last ≡ words_after names [] nodes
words-last names nodes before last is =
    sym (ap (words_after names []) is.0 ∙ words-append names before [] (last ∷ []))
