-- Rows of one word.
use Rattle.std.proofs.Common.{◌≡◌, ℕ, suc, ◌-◌, ◌<◌, List, [], ◌∷◌, ◌++◌, length, take, replicate, sym, ap, ◌∙◌, arith}

-- what is made of a row at the word of a field, if there is one word
pub new_word : (row : List ℕ) (word x : ℕ) → length row ≡ 1 → word < length row → x ∷ [] ≡ take word row ++ x ∷ replicate (length row - suc word) 0
new_word row word x one l =
    let first : word ≡ 0 = omega arith in
    let last : length row - suc word ≡ 0 = omega arith in
    sym (ap (λ k. take k row ++ x ∷ replicate (length row - suc word) 0) first ∙ ap (λ k. x ∷ replicate k 0) last)
