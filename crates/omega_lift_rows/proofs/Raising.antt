-- Entries raised at the last that is below its limit.
use Rattle.std.proofs.Common.{◌≡◌, ℕ, zero, suc, ◌+◌, ◌-◌, ◌<◌, ◌≤◌, cond, ltb, List, [], ◌∷◌, ◌++◌, Some, None, length, get_or, set, take, drop, replicate, sym, refl, ap, ◌∙◌, arith, add-one}
use Rattle.std.specs.Option.{option_map_or}
use Rattle.std.proofs.lemmas.Bool.{lt-ltb, le-ltb}
use Rattle.std.proofs.lemmas.List.{append-nil, append_assoc, length-set, length-take, length-drop, take_more_set, drop-drop, drop_all}
use Rattle.omega_lift_laws.specs.Least.{raised, cleared_after}
use Rattle.omega_lift_rows.specs.Rows.{AreAtLimits, IsLastBelow}
use borrow.Rule.Slice.PartMut.{put_mid}

AreAtLimits-tail : (x l : ℕ) (xs ls : List ℕ) (low high : ℕ) → AreAtLimits (x ∷ xs) (l ∷ ls) (low + 1) (suc high) → AreAtLimits xs ls low high
AreAtLimits-tail x l xs ls low high full k p q = full (suc k) (omega arith) (omega arith)

-- if no entry can grow, none is raised
pub raised_none : (kept : ℕ) (limits entries : List ℕ) → AreAtLimits entries limits 0 kept → raised kept limits entries ≡ None
raised_none zero limits entries full = refl
raised_none (suc kept) [] entries full = refl
raised_none (suc kept) (l ∷ ls) [] full = refl
raised_none (suc kept) (l ∷ ls) (x ∷ xs) full =
    let rest = raised_none kept ls xs (λ k p q. full (suc k) (omega arith) (omega arith)) in
    ap (λ o. option_map_or (λ ys. Some (x ∷ ys)) o (cond (ltb x l) (Some (suc x ∷ replicate (length xs) 0)) None)) rest
    ∙ ap (λ b. cond b (Some (suc x ∷ replicate (length xs) 0)) None) (le-ltb x l (full 0 (omega arith) (omega arith)))

-- the last entry that can grow is raised
pub raised_some :
    (kept : ℕ) (limits entries : List ℕ) (at n : ℕ) → kept ≤ length entries → length entries ≡ length limits → n + suc at ≡ length entries → IsLastBelow entries limits kept at
    → raised kept limits entries ≡ Some (take at entries ++ suc (get_or entries at 0) ∷ replicate n 0)
raised_some zero limits entries at n fits same left last = absurd (omega (arith, last.within))
raised_some (suc kept) [] [] at n fits same left last = absurd (omega arith)
raised_some (suc kept) [] (x ∷ xs) at n fits same left last = absurd (omega arith)
raised_some (suc kept) (l ∷ ls) [] at n fits same left last = absurd (omega arith)
raised_some (suc kept) (l ∷ ls) (x ∷ xs) zero n fits same left last =
    let rest = raised_none kept ls xs (λ k p q. last.following (suc k) (omega arith) (omega arith)) in
    let size : length xs ≡ n = omega arith in
    ap (λ o. option_map_or (λ ys. Some (x ∷ ys)) o (cond (ltb x l) (Some (suc x ∷ replicate (length xs) 0)) None)) rest
    ∙ ap (λ b. cond b (Some (suc x ∷ replicate (length xs) 0)) None) (lt-ltb x l last.below)
    ∙ ap (λ m. Some (suc x ∷ replicate m 0)) size
raised_some (suc kept) (l ∷ ls) (x ∷ xs) (suc at) n fits same left last =
    let tail : IsLastBelow xs ls kept at = record { within = omega (arith, last.within); below = last.below; following = λ k p q. last.following (suc k) (omega arith) (omega arith) } in
    let rest = raised_some kept ls xs at n (omega arith) (omega arith) (omega arith) tail in
    ap (λ o. option_map_or (λ ys. Some (x ∷ ys)) o (cond (ltb x l) (Some (suc x ∷ replicate (length xs) 0)) None)) rest

-- a write to the end of a list
pub put_mid_end : (a k : ℕ) (xs ys : List ℕ) → length xs ≤ a + k → put_mid a k xs ys ≡ take a xs ++ ys
put_mid_end a k xs ys l =
    let none = drop-drop k a xs ∙ drop_all (a + k) xs l in
    ap (λ zs. take a xs ++ (ys ++ zs)) none ∙ ap (λ zs. take a xs ++ zs) (append-nil ys)

-- the row after one entry is raised and those after it are cleared
pub raised_row : (at k n y : ℕ) (entries zeros : List ℕ) → at < length entries → k ≡ length entries - (at + 1) → zeros ≡ replicate n 0 → put_mid (at + 1) k (set entries at y) zeros ≡ take at entries ++ y ∷ replicate n 0
raised_row at k n y entries zeros within size filled =
    put_mid_end (at + 1) k (set entries at y) zeros (omega (arith, length-set entries at y))
    ∙ ap (λ ys. ys ++ zeros) (take_more_set entries at y within)
    ∙ append_assoc (take at entries) (y ∷ []) zeros
    ∙ ap (λ zs. take at entries ++ y ∷ zs) filled

-- the row after those after the first `kept` are cleared
pub cleared_row : (kept k : ℕ) (entries zeros : List ℕ) → k ≡ length entries - kept → zeros ≡ replicate k 0 → put_mid kept k entries zeros ≡ cleared_after kept entries
cleared_row kept k entries zeros size filled =
    put_mid_end kept k entries zeros (omega arith) ∙ ap (λ zs. take kept entries ++ zs) (filled ∙ ap (λ m. replicate m 0) size)

-- what raises a row in place gives the raised entries
pub raised_in_place :
    (kept : ℕ) (limits row zeros : List ℕ) (at k : ℕ) → kept ≤ length row → length row ≡ length limits → IsLastBelow row limits kept at
    → k ≡ length row - (at + 1) → zeros ≡ replicate (length (take k (drop (at + 1) (set row at (get_or row at 0 + 1))))) 0
    → raised kept limits row ≡ Some (put_mid (at + 1) k (set row at (get_or row at 0 + 1)) zeros)
raised_in_place kept limits row zeros at k fits same last size filled =
    let within : at < length row = omega (arith, last.within) in
    let part : length (take k (drop (at + 1) (set row at (get_or row at 0 + 1)))) ≡ k =
    omega (arith, length-take k (drop (at + 1) (set row at (get_or row at 0 + 1))), length-drop (at + 1) (set row at (get_or row at 0 + 1)), length-set row at (get_or row at 0 + 1), size) in
    let zeros_are = filled ∙ ap (λ n. replicate n 0) part in
    raised_some kept limits row at k fits same (omega (arith, size)) last
    ∙ ap (λ y. Some (take at row ++ y ∷ replicate k 0)) (sym (add-one (get_or row at 0)))
    ∙ ap (λ ys. Some ys) (sym (raised_row at k k (get_or row at 0 + 1) row zeros within size zeros_are))
