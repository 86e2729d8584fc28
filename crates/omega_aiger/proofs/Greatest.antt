-- The greatest of numbers, one after the other.
use Rattle.std.proofs.Common.{◌≡◌, ⊎_elim, ℕ, zero, suc, true, refl, ◌+◌, ◌<◌, ◌≤◌, List, [], ◌∷◌, ◌++◌, length, get_or, take, map, max, ap, ◌∙◌, arith, append_assoc}
use Rattle.std.proofs.lemmas.List.{map_more, take_more}
use Rattle.std.specs.Ordering.{is_le, is_lt, nat_cmp, ord_max}
use Rattle.std.specs.declared.cmp.Ordering.{Ordering}
use Rattle.std.specs.declared.cmp.Ordering.TheVariants.{Equal, Greater, Less}
use Rattle.std.proofs.lemmas.Map.Keys.{ge_from_not_lt, le_from_is_le}
use Rattle.omega_aiger.specs.Written.{greatest}
use Rattle.omega_aiger.proofs.Splits.{no, tells, yes}

greatest_push : (numbers : List ℕ) (n : ℕ) → greatest (numbers ++ n ∷ []) ≡ max (greatest numbers) n
greatest_push [] n = omega arith
greatest_push (m ∷ numbers) n = let e = greatest_push numbers n in omega (arith, e)

-- one number more
pub greatest_more : (numbers : List ℕ) (i : ℕ) → i < length numbers → greatest (take (i + 1) numbers) ≡ max (greatest (take i numbers)) (get_or numbers i 0)
greatest_more numbers i within = ap greatest (take_more numbers i 0 within) ∙ greatest_push (take i numbers) (get_or numbers i 0)

pub greatest_map_more : {X : Type 0} (f : X → ℕ) (items : List X) (i : ℕ) (d : X) → i < length items
    → greatest (map f (take (i + 1) items)) ≡ max (greatest (map f (take i items))) (f (get_or items i d))
greatest_map_more f items i d within = ap greatest (map_more f items i d within) ∙ greatest_push (map f (take i items)) (f (get_or items i d))

-- each number is at most the greatest
pub below_greatest : (numbers : List ℕ) (k : ℕ) → k < length numbers → get_or numbers k 0 ≤ greatest numbers
below_greatest [] k within = absurd (omega (arith, within))
below_greatest (n ∷ numbers) zero within = omega arith
below_greatest (n ∷ numbers) (suc k) within = let e = below_greatest numbers k (omega (arith, within)) in omega (arith, e)

-- the greatest of small numbers is small
pub greatest_small : (most : ℕ) (numbers : List ℕ) → ((k : ℕ) → k < length numbers → get_or numbers k 0 ≤ most) → greatest numbers ≤ most
greatest_small most [] small = omega arith
greatest_small most (n ∷ numbers) small =
    let first : n ≤ most = small 0 (omega arith) in
    let others = greatest_small most numbers (λ k within. small (suc k) (omega (arith, within))) in
    omega (arith, first, others)

-- a piece that was appended stands before what follows
pub append_on : (old new piece rest : List ℕ) → new ≡ old ++ piece → new ++ rest ≡ old ++ (piece ++ rest)
append_on old new piece rest is = ap (λ (l : List ℕ). l ++ rest) is ∙ append_assoc old piece rest

-- less is at most
less_is_most : (o : Ordering) → is_lt o ≡ true → is_le o ≡ true
less_is_most Less is = refl
less_is_most Equal is = refl
less_is_most Greater is = is

-- the greater of two, as std has it
pub ord_max_is : (a b : ℕ) → ord_max nat_cmp a b ≡ max a b
ord_max_is a b = ⊎_elim
    (λ less. yes (is_lt (nat_cmp b a)) a b less ∙ (let e = le_from_is_le b a (less_is_most (nat_cmp b a) less) in let m : a ≡ max a b = omega (arith, e) in m))
    (λ no_less. no (is_lt (nat_cmp b a)) a b no_less ∙ (let e = ge_from_not_lt b a no_less in let m : b ≡ max a b = omega (arith, e) in m))
    (tells (is_lt (nat_cmp b a)))
