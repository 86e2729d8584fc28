-- Marks that are written have a set: the same ones, rising, each once.
use Rattle.std.proofs.Common.{◌≡◌, ℕ, zero, suc, ◌+◌, ◌<◌, ◌≤◌, ◌⊎◌, inl, inr, Bool, true, false, cond, ◌||◌, ◌==◌, nat_lt, List, [], ◌∷◌, length, get_or, Contains, refl, ap, sym, ◌∙◌, subst, arith}
use Rattle.std.specs.List.{list_any}
use Rattle.std.specs.List.Sorted.{IsStrictlyIncreasing}
use Rattle.std.proofs.lemmas.Bool.{eq-eqb, eqb-false, eqb-true, false≢true, ltb-false, ltb-true, or_cases}
use Rattle.std.proofs.lemmas.List.Folds.{list_any_at}
use Rattle.omega_hoa_automaton.specs.Meaning.{AreMarksOf}

-- rising numbers with one more in its place, unless it is there
abbrev put : ℕ → List ℕ → List ℕ
put mark [] = mark ∷ []
put mark (x ∷ xs) = cond (nat_lt mark x) (mark ∷ x ∷ xs) (cond (mark == x) (x ∷ xs) (x ∷ put mark xs))

-- the set of marks that are written
abbrev pub set_of : List ℕ → List ℕ
set_of [] = []
set_of (mark ∷ marks) = put mark (set_of marks)

-- numbers that rise, all above a number
abbrev RiseAbove : ℕ → List ℕ → Type 0
RiseAbove low [] = Unit {0}
RiseAbove low (x ∷ xs) = (low < x) × RiseAbove x xs

-- numbers that rise
abbrev Rise : List ℕ → Type 0
Rise [] = Unit {0}
Rise (x ∷ xs) = RiseAbove x xs

-- one more above the same number
put_above : (low mark : ℕ) (xs : List ℕ) → low < mark → RiseAbove low xs → RiseAbove low (put mark xs)
put_above low mark [] less rise = (less, tt)
put_above low mark (x ∷ xs) less rise = by_order (nat_lt mark x) (mark == x) refl refl (put_above x mark xs)
  where
    by_order : (b c : Bool) → nat_lt mark x ≡ b → (mark == x) ≡ c → (x < mark → RiseAbove x xs → RiseAbove x (put mark xs))
        → RiseAbove low (cond b (mark ∷ x ∷ xs) (cond c (x ∷ xs) (x ∷ put mark xs)))
    by_order true c before same more = (less, (ltb-true mark x before, rise.1))
    by_order false true before same more = rise
    by_order false false before same more =
        (rise.0, more (let from : x ≤ mark = ltb-false mark x before in let other : mark ≡ x → ⊥ = eqb-false mark x same in omega arith) rise.1)

-- one more among rising numbers
put_rise : (mark : ℕ) (xs : List ℕ) → Rise xs → Rise (put mark xs)
put_rise mark [] rise = tt
put_rise mark (x ∷ xs) rise = by_order (nat_lt mark x) (mark == x) refl refl
  where
    by_order : (b c : Bool) → nat_lt mark x ≡ b → (mark == x) ≡ c → Rise (cond b (mark ∷ x ∷ xs) (cond c (x ∷ xs) (x ∷ put mark xs)))
    by_order true c before same = (ltb-true mark x before, rise)
    by_order false true before same = rise
    by_order false false before same =
        put_above x mark xs (let from : x ≤ mark = ltb-false mark x before in let other : mark ≡ x → ⊥ = eqb-false mark x same in omega arith) rise

-- the set rises
set_rises : (marks : List ℕ) → Rise (set_of marks)
set_rises [] = tt
set_rises (mark ∷ marks) = put_rise mark (set_of marks) (set_rises marks)

-- each number of those that rise is below the next
next_above : (low : ℕ) (xs : List ℕ) (k : ℕ) → RiseAbove low xs → k + 1 < length (low ∷ xs) → get_or (low ∷ xs) k 0 < get_or (low ∷ xs) (k + 1) 0
next_above low [] k rise within = absurd (omega arith)
next_above low (x ∷ xs) zero rise within = rise.0
next_above low (x ∷ xs) (suc k) rise within =
    let next : suc (k + 1) ≡ suc k + 1 = omega arith in
    subst (λ n. get_or (x ∷ xs) k 0 < get_or (low ∷ x ∷ xs) n 0) next (next_above x xs k rise.1 (omega arith))

-- numbers that rise are rising
rise_increasing : (xs : List ℕ) → Rise xs → IsStrictlyIncreasing xs
rise_increasing [] rise = λ k within. absurd (omega arith)
rise_increasing (x ∷ xs) rise = λ k within. next_above x xs k rise within

-- one of two tests, or one of them first
in_turn : (a b c : Bool) → (a || (b || c)) ≡ (b || (a || c))
in_turn true true c = refl
in_turn true false c = refl
in_turn false true c = refl
in_turn false false c = refl

-- a test twice
twice : (a b : Bool) → (a || b) ≡ (a || (a || b))
twice true b = refl
twice false b = refl

-- whether a number is there
abbrev is_in : ℕ → List ℕ → Bool
is_in number xs = list_any (λ x. x == number) xs

-- what is there with one more
is_in-put : (number mark : ℕ) (xs : List ℕ) → is_in number (put mark xs) ≡ ((mark == number) || is_in number xs)
is_in-put number mark [] = refl
is_in-put number mark (x ∷ xs) = by_order (nat_lt mark x) (mark == x) refl (is_in-put number mark xs)
  where
    by_order : (b c : Bool) → (mark == x) ≡ c → is_in number (put mark xs) ≡ ((mark == number) || is_in number xs)
        → is_in number (cond b (mark ∷ x ∷ xs) (cond c (x ∷ xs) (x ∷ put mark xs))) ≡ ((mark == number) || is_in number (x ∷ xs))
    by_order true c same rest = refl
    by_order false true same rest =
        let is : mark ≡ x = eqb-true mark x same in
        twice (x == number) (is_in number xs) ∙ ap (λ n. (n == number) || ((x == number) || is_in number xs)) (sym is)
    by_order false false same rest =
        ap (λ b. (x == number) || b) rest ∙ in_turn (x == number) (mark == number) (is_in number xs)

-- the set has the marks that are written
is_in-set : (number : ℕ) (marks : List ℕ) → is_in number (set_of marks) ≡ is_in number marks
is_in-set number [] = refl
is_in-set number (mark ∷ marks) = is_in-put number mark (set_of marks) ∙ ap (λ b. (mark == number) || b) (is_in-set number marks)

-- by its place, and by the test
in_by_place : (number : ℕ) (xs : List ℕ) → Contains xs number → is_in number xs ≡ true
in_by_place number xs has = list_any_at (λ x. x == number) xs has.0 number has.1 (eq-eqb (get_or xs has.0 number) number has.2)

-- by the test, and by its place
in_by_test : (number : ℕ) (xs : List ℕ) → is_in number xs ≡ true → Contains xs number
in_by_test number [] h = absurd (false≢true h)
in_by_test number (x ∷ xs) h = by_case (or_cases (x == number) (is_in number xs) h) (in_by_test number xs)
  where
    by_case : ((x == number) ≡ true) ⊎ (is_in number xs ≡ true) → (is_in number xs ≡ true → Contains xs number) → Contains (x ∷ xs) number
    by_case first rest = elim first [
      | inl here ↦ (0, omega arith, eqb-true x number here)
      | inr later ↦ (let has = rest later in (suc has.0, omega (arith, has.1), has.2))
    ]

-- the set of marks that are written is one
pub marks_there : (written : List ℕ) → AreMarksOf written (set_of written)
marks_there written = record {
  rising = rise_increasing (set_of written) (set_rises written);
  same = λ mark. (
    (λ has. in_by_test mark written (sym (is_in-set mark written) ∙ in_by_place mark (set_of written) has)),
    (λ has. in_by_test mark (set_of written) (is_in-set mark written ∙ in_by_place mark written has)),
  );
}
