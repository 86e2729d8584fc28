-- Texts of items one after the other, numbered or not: of one item more, and of two lists.
use Rattle.std.proofs.Common.{◌≡◌, ℕ, ◌+◌, ◌<◌, ◌≤◌, List, [], ◌∷◌, ◌++◌, length, take, get_or, sym, ap, ◌∙◌, append_assoc, arith}
use Rattle.std.proofs.lemmas.List.{append-nil, flat_map_more, length-take-le, take_all, take_more}
use Rattle.std.specs.List.{flat_map}
use Rattle.omega_text.specs.Numbered.{numbered}

-- the texts of some items and then of others
pub numbered_on : {X : Type 0} (text : ℕ → X → List ℕ) (first : ℕ) (xs ys : List X)
    → numbered text first (xs ++ ys) ≡ numbered text first xs ++ numbered text (first + length xs) ys
numbered_on text first [] ys = let e : first ≡ first + 0 = omega arith in ap (λ n. numbered text n ys) e
numbered_on text first (x ∷ xs) ys =
    let e : (first + 1) + length xs ≡ first + length (x ∷ xs) = omega arith in
    ap (λ list. text first x ++ list) (numbered_on text (first + 1) xs ys ∙ ap (λ n. numbered text (first + 1) xs ++ numbered text n ys) e)
    ∙ sym (append_assoc (text first x) (numbered text (first + 1) xs) (numbered text (first + length (x ∷ xs)) ys))

-- the texts of one item more
pub numbered_more : {X : Type 0} (text : ℕ → X → List ℕ) (first : ℕ) (xs : List X) (i : ℕ) (d : X) → i < length xs
    → numbered text first (take (i + 1) xs) ≡ numbered text first (take i xs) ++ text (first + i) (get_or xs i d)
numbered_more text first xs i d below =
    let within : i ≤ length xs = omega arith in
    ap (numbered text first) (take_more xs i d below)
    ∙ numbered_on text first (take i xs) (get_or xs i d ∷ [])
    ∙ ap (λ n. numbered text first (take i xs) ++ (text (first + n) (get_or xs i d) ++ [])) (length-take-le i xs within)
    ∙ ap (λ list. numbered text first (take i xs) ++ list) (append-nil (text (first + i) (get_or xs i d)))

-- one text more is written after the others
pub row_more : {X : Type 0} (text : ℕ → X → List ℕ) (first : ℕ) (xs : List X) (i : ℕ) (d : X) (front before after : List ℕ) → i < length xs
    → before ≡ front ++ numbered text first (take i xs) → after ≡ before ++ text (first + i) (get_or xs i d)
    → after ≡ front ++ numbered text first (take (i + 1) xs)
row_more text first xs i d front before after below so_far step =
    step ∙ ap (λ list. list ++ text (first + i) (get_or xs i d)) so_far
    ∙ append_assoc front (numbered text first (take i xs)) (text (first + i) (get_or xs i d))
    ∙ ap (λ list. front ++ list) (sym (numbered_more text first xs i d below))

-- the same if the numbers begin with 0
pub first_row_more : {X : Type 0} (text : ℕ → X → List ℕ) (xs : List X) (i : ℕ) (d : X) (front before after : List ℕ) → i < length xs
    → before ≡ front ++ numbered text 0 (take i xs) → after ≡ before ++ text i (get_or xs i d)
    → after ≡ front ++ numbered text 0 (take (i + 1) xs)
first_row_more text xs i d front before after below so_far step =
    let e : i ≡ 0 + i = omega arith in
    row_more text 0 xs i d front before after below so_far (step ∙ ap (λ n. before ++ text n (get_or xs i d)) e)

-- all texts are written, and what is after them
pub rows_end : {X : Type 0} (text : ℕ → X → List ℕ) (xs : List X) (i : ℕ) (front back before after : List ℕ) → length xs ≤ i
    → before ≡ front ++ numbered text 0 (take i xs) → after ≡ before ++ back
    → after ≡ front ++ (numbered text 0 xs ++ back)
rows_end text xs i front back before after all so_far step =
    step ∙ ap (λ list. list ++ back) so_far
    ∙ ap (λ list. (front ++ numbered text 0 list) ++ back) (take_all i xs all)
    ∙ append_assoc front (numbered text 0 xs) back

-- the same of texts that are not numbered
pub text_more : {X : Type 0} (text : X → List ℕ) (xs : List X) (i : ℕ) (d : X) (front before after : List ℕ) → i < length xs
    → before ≡ front ++ flat_map text (take i xs) → after ≡ before ++ text (get_or xs i d)
    → after ≡ front ++ flat_map text (take (i + 1) xs)
text_more text xs i d front before after below so_far step =
    step ∙ ap (λ list. list ++ text (get_or xs i d)) so_far
    ∙ flat_map_more text front (take i xs) (get_or xs i d)
    ∙ ap (λ list. front ++ flat_map text list) (sym (take_more xs i d below))
