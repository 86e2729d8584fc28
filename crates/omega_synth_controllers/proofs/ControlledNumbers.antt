-- Numbers that values are made of, from the front.
use Rattle.std.proofs.Common.{◌≡◌, ℕ, ◌<◌, false, ◌||◌, inl, inr, List, [], ◌∷◌, length, get_or, map, nat_eq, refl, ap, sym, ◌∙◌, arith, eq-eqb}
use Rattle.std.specs.List.{list_any}
use Rattle.std.proofs.lemmas.List.{get_or-map, length-map}
use Rattle.std.proofs.lemmas.Bool.Decides.{eqb_tells}

-- lists of numbers are equal if the values made of them are
pub numbers_same : {V : Type 0} (of : ℕ → V) → ((m n : ℕ) → of m ≡ of n → m ≡ n) → (xs ys : List ℕ) → map of xs ≡ map of ys → xs ≡ ys
numbers_same of injective [] [] same = refl
numbers_same of injective [] (y ∷ ys) same = cc
numbers_same of injective (x ∷ xs) [] same = cc
numbers_same of injective (x ∷ xs) (y ∷ ys) same =
    let first : of x ≡ of y = cc in
    let rest : map of xs ≡ map of ys = cc in
    let e : x ≡ y = injective x y first in
    let es : xs ≡ ys = numbers_same of injective xs ys rest in cc

-- the number at an index is the one that the value there is made of
pub number_at : {V : Type 0} (of : ℕ → V) → ((m n : ℕ) → of m ≡ of n → m ≡ n) → (values : List V) (all : List ℕ) (i n : ℕ) (d : V)
    → values ≡ map of all → i < length values → get_or values i d ≡ of n → get_or all i 0 ≡ n
number_at of injective values all i n d listed below here =
    let within : i < length all = omega (arith, ap length listed, length-map all of) in
    injective (get_or all i 0) n (sym (get_or-map of all i 0 d within) ∙ (ap (λ vs. get_or vs i d) (sym listed) ∙ here))

-- numbers that are not equal
not_same : (a b : ℕ) → (a ≡ b → ⊥) → nat_eq a b ≡ false
not_same a b apart = elim (eqb_tells a b) [
  | inl same ↦ absurd (apart same.1)
  | inr other ↦ other.0
]

-- equality with its sides exchanged
same_exchanged : (a b : ℕ) → nat_eq a b ≡ nat_eq b a
same_exchanged a b = elim (eqb_tells a b) [
  | inl same ↦ same.0 ∙ sym (eq-eqb b a (sym same.1))
  | inr other ↦ other.0 ∙ sym (not_same b a (λ e. other.1 (sym e)))
]

-- a search for a number, with the sides of the equality exchanged
pub any_exchanged : (n : ℕ) (xs : List ℕ) → list_any (λ y. nat_eq y n) xs ≡ list_any (nat_eq n) xs
any_exchanged n [] = refl
any_exchanged n (x ∷ xs) =
    ap (λ b. b || list_any (λ y. nat_eq y n) xs) (same_exchanged x n) ∙ ap (λ b. nat_eq n x || b) (any_exchanged n xs)
