-- A label's word under 64 valuations: how nodes make it, how high they stack up, and what each bit says.
use Rattle.std.proofs.Common.{◌≡◌, ℕ, ◌+◌, ◌-◌, ◌%◌, ◌^◌, ◌<◌, ◌≤◌, zero, suc, Bool, true, false, not, ◌&&◌, ◌||◌, eqb, List, [], ◌∷◌, ◌++◌, length, max, min, ap, append-nil, append_assoc, refl, sym, ◌∙◌, arith, eq-eqb, drop, drop-cons, get_or, w64, bit_and}
use Rattle.std.specs.Int.{bit_at, trailing_zeros}
use Rattle.std.proofs.lemmas.Nat.Bits.{bit_at-trailing_zeros, bit_at-lt, bit_at-zero, bit_at_and, bit_at_ones, bit_at_or, bit_at_xor}
use Rattle.omega_hoa_label.proofs.LabelLemmas.{depth-positive}
use Rattle.omega_hoa_label.specs.Label.{LabelTree, conjunction, constant, disjunction, negation, proposition, propositions, truth, label_depth}
use Rattle.omega_hoa_label.specs.Postfix.{postfix}
use Rattle.omega_hoa_expression.specs.Joins.{regrouped}
use Rattle.omega_hoa_expression.specs.Limits.{most_depth}
use Rattle.omega_hoa_satisfiable.specs.private.Words.{height_with, ones, peak, propositions_of, word_of, word_of_truth, top_word, words_after, words_below}
use Rattle.omega_hoa_label.specs.declared.label.LabelNode.{LabelNode}
use Rattle.omega_hoa_label.specs.declared.label.LabelNode.TheVariants.{Alias, And, Constant, Group, Not, Or, Proposition}

-- ---- nodes

-- a label's nodes leave its word
words_after-postfix : (words : ℕ → ℕ) (tree : LabelTree) (stack : List ℕ) (rest : List LabelNode)
    → words_after words stack (postfix tree ++ rest) ≡ words_after words (word_of words tree ∷ stack) rest
words_after-postfix words (constant value) stack rest = refl
words_after-postfix words (proposition number) stack rest = refl
words_after-postfix words (negation part) stack rest =
    ap (words_after words stack) (append_assoc (postfix part) (Not ∷ []) rest) ∙ words_after-postfix words part stack (Not ∷ rest)
words_after-postfix words (conjunction left right) stack rest =
    ap (words_after words stack) (regrouped (postfix left) (postfix right) And rest)
    ∙ (words_after-postfix words left stack (postfix right ++ And ∷ rest) ∙ words_after-postfix words right (word_of words left ∷ stack) (And ∷ rest))
words_after-postfix words (disjunction left right) stack rest =
    ap (words_after words stack) (regrouped (postfix left) (postfix right) Or rest)
    ∙ (words_after-postfix words left stack (postfix right ++ Or ∷ rest) ∙ words_after-postfix words right (word_of words left ∷ stack) (Or ∷ rest))

-- a label's nodes alone leave its word alone
pub words_after-label : (words : ℕ → ℕ) (tree : LabelTree) → words_after words [] (postfix tree) ≡ word_of words tree ∷ []
words_after-label words tree = ap (words_after words []) (sym (append-nil (postfix tree))) ∙ words_after-postfix words tree [] []

-- a label's nodes stack up as high as it is deep
peak-postfix : (tree : LabelTree) (height : ℕ) (rest : List LabelNode)
    → peak height (postfix tree ++ rest) ≤ max (height + label_depth tree) (peak (height + 1) rest)
peak-postfix (constant value) height rest = omega arith
peak-postfix (proposition number) height rest = omega arith
peak-postfix (negation part) height rest =
    let joined = ap (peak height) (append_assoc (postfix part) (Not ∷ []) rest) in
    let same : height + 1 - 1 + 1 ≡ height + 1 = omega arith in
    let again = ap (λ h. peak h rest) same in
    omega (arith, joined, again, peak-postfix part height (Not ∷ rest))
peak-postfix (conjunction left right) height rest =
    let joined = ap (peak height) (regrouped (postfix left) (postfix right) And rest) in
    let same : height + 1 + 1 - 1 - 1 + 1 ≡ height + 1 = omega arith in
    let again = ap (λ h. peak h rest) same in
    omega (arith, joined, again, depth-positive left, peak-postfix left height (postfix right ++ And ∷ rest), peak-postfix right (height + 1) (And ∷ rest))
peak-postfix (disjunction left right) height rest =
    let joined = ap (peak height) (regrouped (postfix left) (postfix right) Or rest) in
    let same : height + 1 + 1 - 1 - 1 + 1 ≡ height + 1 = omega arith in
    let again = ap (λ h. peak h rest) same in
    omega (arith, joined, again, depth-positive left, peak-postfix left height (postfix right ++ Or ∷ rest), peak-postfix right (height + 1) (Or ∷ rest))

-- a label that is not too deep needs no more room
pub peak-label : (tree : LabelTree) → label_depth tree ≤ most_depth → peak 0 (postfix tree) ≤ most_depth
peak-label tree shallow = omega (arith, ap (peak 0) (append-nil (postfix tree)), peak-postfix tree 0 [])

-- the height grows by no more than one for each node
pub peak-short : (height : ℕ) (nodes : List LabelNode) → peak height nodes ≤ height + length nodes
peak-short height [] = omega arith
peak-short height (Constant value ∷ nodes) = omega (arith, peak-short (height + 1) nodes)
peak-short height (Proposition number ∷ nodes) = omega (arith, peak-short (height + 1) nodes)
peak-short height (Not ∷ nodes) = omega (arith, peak-short (height - 1 + 1) nodes)
peak-short height (And ∷ nodes) = omega (arith, peak-short (height - 1 - 1 + 1) nodes)
peak-short height (Or ∷ nodes) = omega (arith, peak-short (height - 1 - 1 + 1) nodes)
peak-short height (Alias count ∷ nodes) = omega (arith, peak-short height nodes)
peak-short height (Group ∷ nodes) = omega (arith, peak-short height nodes)

-- a height is no higher than the peak from it on
pub peak-from : (height : ℕ) (nodes : List LabelNode) → height ≤ peak height nodes
peak-from height [] = omega arith
peak-from height (next ∷ nodes) = omega arith

-- so there is room for the words after each node
pub peak-grown : (room height : ℕ) (nodes : List LabelNode) (place : ℕ) (node d : LabelNode) → place < length nodes → get_or nodes place d ≡ node
    → peak height (drop place nodes) ≤ room → height_with height node ≤ room
peak-grown room height nodes place node d within here fits =
    let split = ap (peak height) (drop-cons nodes place d within) in
    let next = ap (λ other. max height (peak (height_with height other) (drop (suc place) nodes))) here in
    omega (arith, split, next, peak-from (height_with height node) (drop (suc place) nodes))

-- a word is taken, if there is one
pub length-below : (words : List ℕ) → length (words_below words) ≡ length words - 1
length-below [] = refl
length-below (word ∷ words) = omega arith

-- there is room for the word of an atom
pub peak-atom : (room height : ℕ) (nodes : List LabelNode) (place : ℕ) (atom d : LabelNode) → place < length nodes → get_or nodes place d ≡ atom
    → height_with height atom ≡ height + 1 → peak height (drop place nodes) ≤ room → height < room
peak-atom room height nodes place atom d within here grows fits =
    let split = ap (peak height) (drop-cons nodes place d within) in
    let next = ap (λ node. max height (peak (height_with height node) (drop (suc place) nodes))) here in
    let higher = ap (λ h. peak h (drop (suc place) nodes)) grows in
    omega (arith, split, next, higher, peak-from (height + 1) (drop (suc place) nodes))

propositions_of-postfix : (tree : LabelTree) (rest : List LabelNode) → propositions_of (postfix tree ++ rest) ≡ propositions tree ++ propositions_of rest
propositions_of-postfix (constant value) rest = refl
propositions_of-postfix (proposition number) rest = refl
propositions_of-postfix (negation part) rest =
    ap propositions_of (append_assoc (postfix part) (Not ∷ []) rest) ∙ propositions_of-postfix part (Not ∷ rest)
propositions_of-postfix (conjunction left right) rest =
    ap propositions_of (regrouped (postfix left) (postfix right) And rest)
    ∙ (propositions_of-postfix left (postfix right ++ And ∷ rest)
    ∙ (ap (λ more. propositions left ++ more) (propositions_of-postfix right (And ∷ rest))
    ∙ sym (append_assoc (propositions left) (propositions right) (propositions_of rest))))
propositions_of-postfix (disjunction left right) rest =
    ap propositions_of (regrouped (postfix left) (postfix right) Or rest)
    ∙ (propositions_of-postfix left (postfix right ++ Or ∷ rest)
    ∙ (ap (λ more. propositions left ++ more) (propositions_of-postfix right (Or ∷ rest))
    ∙ sym (append_assoc (propositions left) (propositions right) (propositions_of rest))))

-- the propositions of a label's nodes are the label's
pub propositions_of-label : (tree : LabelTree) → propositions_of (postfix tree) ≡ propositions tree
propositions_of-label tree =
    ap propositions_of (sym (append-nil (postfix tree))) ∙ (propositions_of-postfix tree [] ∙ append-nil (propositions tree))

-- ---- bits

-- whether a bit of a word is set
abbrev pub on : ℕ → ℕ → Bool
on word lane = eqb (bit_at word lane) 1

-- a proposition's truth in a lane
abbrev pub held_in : (ℕ → ℕ) → ℕ → ℕ → Bool
held_in words lane number = on (words number) lane

on-and-bits : (p q : ℕ) → p < 2 → q < 2 → eqb (min p q) 1 ≡ (eqb p 1 && eqb q 1)
on-and-bits zero zero a b = refl
on-and-bits zero (suc zero) a b = refl
on-and-bits (suc zero) zero a b = refl
on-and-bits (suc zero) (suc zero) a b = refl
on-and-bits (suc (suc p)) q a b = absurd (omega arith)
on-and-bits zero (suc (suc q)) a b = absurd (omega arith)
on-and-bits (suc zero) (suc (suc q)) a b = absurd (omega arith)

pub on-or-bits : (p q : ℕ) → p < 2 → q < 2 → eqb (max p q) 1 ≡ (eqb p 1 || eqb q 1)
on-or-bits zero zero a b = refl
on-or-bits zero (suc zero) a b = refl
on-or-bits (suc zero) zero a b = refl
on-or-bits (suc zero) (suc zero) a b = refl
on-or-bits (suc (suc p)) q a b = absurd (omega arith)
on-or-bits zero (suc (suc q)) a b = absurd (omega arith)
on-or-bits (suc zero) (suc (suc q)) a b = absurd (omega arith)

on-not-bits : (p : ℕ) → p < 2 → eqb ((p + 1) % 2) 1 ≡ not (eqb p 1)
on-not-bits zero a = refl
on-not-bits (suc zero) a = refl
on-not-bits (suc (suc p)) a = absurd (omega arith)

pub on-truth : (value : Bool) (lane : ℕ) → lane < 64 → on (word_of_truth value) lane ≡ value
on-truth true lane within = ap (λ bit. eqb bit 1) (bit_at_ones 64 lane within)
on-truth false lane within = ap (λ bit. eqb bit 1) (bit_at-zero lane)

-- a bit is set in both words
pub on-and : (word other lane : ℕ) → on (bit_and word other) lane ≡ (on word lane && on other lane)
on-and word other lane =
    ap (λ bit. eqb bit 1) (bit_at_and word other lane) ∙ on-and-bits (bit_at word lane) (bit_at other lane) (bit_at-lt word lane) (bit_at-lt other lane)

-- each bit of a label's word is its truth under the propositions of that lane
pub on-word_of : (words : ℕ → ℕ) (tree : LabelTree) (lane : ℕ) → lane < 64 → on (word_of words tree) lane ≡ truth (held_in words lane) tree
on-word_of words (constant value) lane within = on-truth value lane within
on-word_of words (proposition number) lane within = refl
on-word_of words (negation part) lane within =
    ap (λ bit. eqb bit 1) (bit_at_xor (word_of words part) ones lane)
    ∙ (ap (λ bit. eqb ((bit_at (word_of words part) lane + bit) % 2) 1) (bit_at_ones 64 lane within)
    ∙ (on-not-bits (bit_at (word_of words part) lane) (bit_at-lt (word_of words part) lane) ∙ ap not (on-word_of words part lane within)))
on-word_of words (conjunction left right) lane within =
    ap (λ bit. eqb bit 1) (bit_at_and (word_of words left) (word_of words right) lane)
    ∙ (on-and-bits (bit_at (word_of words left) lane) (bit_at (word_of words right) lane) (bit_at-lt (word_of words left) lane) (bit_at-lt (word_of words right) lane)
    ∙ (ap (λ b. b && on (word_of words right) lane) (on-word_of words left lane within) ∙ ap (λ b. truth (held_in words lane) left && b) (on-word_of words right lane within)))
on-word_of words (disjunction left right) lane within =
    ap (λ bit. eqb bit 1) (bit_at_or (word_of words left) (word_of words right) lane)
    ∙ (on-or-bits (bit_at (word_of words left) lane) (bit_at (word_of words right) lane) (bit_at-lt (word_of words left) lane) (bit_at-lt (word_of words right) lane)
    ∙ (ap (λ b. b || on (word_of words right) lane) (on-word_of words left lane within) ∙ ap (λ b. truth (held_in words lane) left || b) (on-word_of words right lane within)))

-- what is made of a label's nodes is its word
pub word-is : (words : ℕ → ℕ) (tree : LabelTree) (nodes : List LabelNode) (result : ℕ)
    → nodes ≡ postfix tree → result ≡ top_word (words_after words [] nodes) → result ≡ word_of words tree
word-is words tree nodes result is made =
    made ∙ (ap (λ more. top_word (words_after words [] more)) is ∙ ap top_word (words_after-label words tree))

-- so is what is made of the nodes of two labels, for their conjunction
pub word-of-both : (words : ℕ → ℕ) (one other : LabelTree) (nodes others : List LabelNode) (result : ℕ)
    → nodes ≡ postfix one → others ≡ postfix other
    → result ≡ bit_and (top_word (words_after words [] nodes)) (top_word (words_after words [] others))
    → result ≡ word_of words (conjunction one other)
word-of-both words one other nodes others result is is-other made =
    made
    ∙ (ap (λ word. bit_and word (top_word (words_after words [] others))) (word-is words one nodes (top_word (words_after words [] nodes)) is refl)
    ∙ ap (bit_and (word_of words one)) (word-is words other others (top_word (words_after words [] others)) is-other refl))

-- a word that is not 0 has a lane that is on
pub lane-on : (word : ℕ) → (word ≡ 0 → ⊥) → word < 2 ^ 64 → (lane : ℕ) × ((lane < 64) × (on word lane ≡ true))
lane-on word some within =
    let lowest = bit_at-trailing_zeros w64 word (omega arith) within in
    (trailing_zeros w64 word, (lowest.0, eq-eqb (bit_at word (trailing_zeros w64 word)) 1 lowest.1))

-- no lane of 0 is on
pub lane-off : (lane : ℕ) → on 0 lane ≡ false
lane-off lane = ap (λ bit. eqb bit 1) (bit_at-zero lane)
