-- Flags of numbers that are set one by one.
use Rattle.std.proofs.Common.{◌≡◌, ◌≢◌, ℕ, zero, suc, ◌+◌, ◌<◌, ◌≤◌, Bool, true, false, ◌&&◌, ◌||◌, List, [], ◌∷◌, ◌++◌, length, get_or, take, set, replicate, nat_eq, nat_lt, refl, ap, sym, ◌∙◌, inl, inr, arith}
use Rattle.std.proofs.lemmas.Bool.{ltb-false, ltb-true}
use Rattle.std.proofs.lemmas.Bool.Decides.{eqb_tells}
use Rattle.std.proofs.lemmas.List.{get_or-set_other, get_or-set_same, take_more}
use Rattle.std.proofs.lemmas.List.Folds.{list_any-append}
use Rattle.omega_graph.specs.Graph.{listed}

-- past the end there is no flag
pub get_beyond : (flags : List Bool) (m : ℕ) → length flags ≤ m → get_or flags m false ≡ false
get_beyond [] m beyond = refl
get_beyond (f ∷ flags) zero beyond = absurd (omega arith)
get_beyond (f ∷ flags) (suc m) beyond = get_beyond flags m (omega arith)

-- no flag is set at first
pub none_set : (count m : ℕ) → get_or (replicate count false) m false ≡ false
none_set zero m = refl
none_set (suc count) zero = refl
none_set (suc count) (suc m) = none_set count m

-- nothing else is set
set_beyond : (flags : List Bool) (n : ℕ) → length flags ≤ n → set flags n true ≡ flags
set_beyond [] n beyond = refl
set_beyond (f ∷ flags) zero beyond = absurd (omega arith)
set_beyond (f ∷ flags) (suc n) beyond = ap (λ fs. f ∷ fs) (set_beyond flags n (omega arith))

and_true : (b : Bool) → (b && true) ≡ b
and_true true = refl
and_true false = refl

and_false : (b : Bool) → (b && false) ≡ false
and_false true = refl
and_false false = refl

or_true : (b : Bool) → (b || true) ≡ true
or_true true = refl
or_true false = refl

or_false : (b : Bool) → (b || false) ≡ b
or_false true = refl
or_false false = refl

-- no number is listed at first
pub flags_first : (count m : ℕ) → get_or (replicate count false) m false ≡ (nat_lt m count && listed [] m)
flags_first count m = none_set count m ∙ sym (and_false (nat_lt m count))

-- one number more is listed
listed_push : (numbers : List ℕ) (n m : ℕ) → listed (numbers ++ n ∷ []) m ≡ (listed numbers m || nat_eq n m)
listed_push numbers n m =
    list_any-append (λ other. nat_eq other m) numbers (n ∷ []) ∙ ap (λ b. listed numbers m || b) (or_false (nat_eq n m))

-- one flag more is set
pub flag_more : (flags : List Bool) (kept : List ℕ) (count i n : ℕ) → length flags ≡ count → i < length kept → n ≡ get_or kept i 0
    → ((m : ℕ) → get_or flags m false ≡ (nat_lt m count && listed (take i kept) m))
    → (m : ℕ) → get_or (set flags n true) m false ≡ (nat_lt m count && listed (take (i + 1) kept) m)
flag_more flags kept count i n long below here so_far m =
    let more : listed (take (i + 1) kept) m ≡ (listed (take i kept) m || nat_eq n m) =
    ap (λ xs. listed xs m) (take_more kept i 0 below ∙ ap (λ x. take i kept ++ x ∷ []) (sym here)) ∙ listed_push (take i kept) n m in
    elim (eqb_tells n m) [
      | inl same ↦
          let whole : (nat_lt m count && listed (take (i + 1) kept) m) ≡ nat_lt m count =
          ap (λ b. nat_lt m count && b) (more ∙ ap (λ b. listed (take i kept) m || b) same.0 ∙ or_true (listed (take i kept) m)) ∙ and_true (nat_lt m count) in
          elim (nat_lt m count) as (λ b. nat_lt m count ≡ b → get_or (set flags n true) m false ≡ (nat_lt m count && listed (take (i + 1) kept) m)) [
            | true ↦ λ inside.
                let lower : m < count = ltb-true m count inside in
                let within : n < length flags = omega (arith, same.1) in
                ap (λ k. get_or (set flags n true) k false) (sym same.1) ∙ get_or-set_same flags n true false within ∙ sym (whole ∙ inside)
            | false ↦ λ outside.
                let upper : count ≤ m = ltb-false m count outside in
                let beyond : length flags ≤ n = omega (arith, same.1) in
                ap (λ fs. get_or fs m false) (set_beyond flags n beyond) ∙ get_beyond flags m (omega arith) ∙ sym (whole ∙ outside)
          ] refl
      | inr apart ↦
          let other : m ≢ n = λ e. apart.1 (sym e) in
          get_or-set_other flags n m true false other ∙ so_far m
          ∙ ap (λ b. nat_lt m count && b) (sym (more ∙ ap (λ b. listed (take i kept) m || b) apart.0 ∙ or_false (listed (take i kept) m)))
    ]
