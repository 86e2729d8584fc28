-- Numbers with a parity.
use Rattle.std.proofs.Common.{◌≡◌, ℕ, ◌+◌, ◌-◌, ◌%◌, ◌≤◌, suc, add-one, Bool, true, false, not, eqb, ap, refl, sym, ◌∙◌, arith, eq-eqb, inl, inr}
use Rattle.std.proofs.lemmas.Bool.{cases_eq, cond_both, eqb-true, ne_eqb}
use Rattle.omega_hoa_parity_kind.specs.Priority.{has_parity, least_from}
use Rattle.omega_hoa_parity_kind.specs.declared.kind.Parity.{Parity}
use Rattle.omega_hoa_parity_kind.specs.declared.kind.Parity.TheVariants.{Even, Odd}

-- two tests of numbers agree where the numbers do
pub same-tests : (a b c d : ℕ) → (a ≡ b → c ≡ d) → (c ≡ d → a ≡ b) → eqb a b ≡ eqb c d
same-tests a b c d forth back = elim (cases_eq a b) [
  | inl same ↦ eq-eqb a b same ∙ sym (eq-eqb c d (forth same))
  | inr other ↦ ne_eqb a b other ∙ sym (ne_eqb c d (λ e. other (back e)))
]

-- a test is the opposite of another where the numbers are
pub opposite-tests : (a b c d : ℕ) → (a ≡ b → c ≡ d → ⊥) → ((a ≡ b → ⊥) → c ≡ d) → eqb a b ≡ not (eqb c d)
opposite-tests a b c d forth back = elim (cases_eq a b) [
  | inl same ↦ eq-eqb a b same ∙ sym (ap not (ne_eqb c d (forth same)))
  | inr other ↦ ne_eqb a b other ∙ sym (ap not (eq-eqb c d (back other)))
]

-- twice the opposite
pub not-not : (b : Bool) → not (not b) ≡ b
not-not true = refl
not-not false = refl

odd-then-even : (n : ℕ) → eqb (suc n % 2) 0 ≡ not (eqb (n % 2) 0)
odd-then-even n = opposite-tests (suc n % 2) 0 (n % 2) 0 (λ a b. omega arith) (λ a. omega arith)

even-then-odd : (n : ℕ) → eqb (suc n % 2) 1 ≡ not (eqb (n % 2) 1)
even-then-odd n = opposite-tests (suc n % 2) 1 (n % 2) 1 (λ a b. omega arith) (λ a. omega arith)

-- the next number has the other parity
pub has_parity-suc : (parity : Parity) (n : ℕ) → has_parity parity (suc n) ≡ not (has_parity parity n)
has_parity-suc Even n = odd-then-even n
has_parity-suc Odd n = even-then-odd n

-- a number is even where it is not odd
pub even-not-odd : (n : ℕ) → has_parity Even n ≡ not (has_parity Odd n)
even-not-odd n = opposite-tests (n % 2) 0 (n % 2) 1 (λ a b. omega arith) (λ a. omega arith)

from_even : (e low : ℕ) → low ≤ e → e % 2 ≡ 0 → eqb ((e - low) % 2) 0 ≡ eqb (low % 2) 0
from_even e low within even = same-tests ((e - low) % 2) 0 (low % 2) 0 (λ a. omega arith) (λ a. omega arith)

from_odd : (e low : ℕ) → low ≤ e → e % 2 ≡ 1 → eqb ((e - low) % 2) 0 ≡ eqb (low % 2) 1
from_odd e low within odd = same-tests ((e - low) % 2) 0 (low % 2) 1 (λ a. omega arith) (λ a. omega arith)

-- what is left of a number of the parity is even exactly where what is taken has the parity
pub even-difference : (parity : Parity) (e low : ℕ) → low ≤ e → has_parity parity e ≡ true → has_parity Even (e - low) ≡ has_parity parity low
even-difference Even e low within is = from_even e low within (eqb-true (e % 2) 0 is)
even-difference Odd e low within is = from_odd e low within (eqb-true (e % 2) 1 is)

-- the least number of the parity from a number on has it, and is not below the number
pub least_from-parity : (parity : Parity) (n : ℕ) → has_parity parity (least_from parity n) ≡ true
least_from-parity parity n =
    cond_both (has_parity parity n) n (n + 1) (λ e. has_parity parity e ≡ true) (λ yes. yes)
    (λ no. ap (has_parity parity) (add-one n) ∙ (has_parity-suc parity n ∙ ap not no))

pub least_from-le : (parity : Parity) (n : ℕ) → n ≤ least_from parity n
least_from-le parity n = cond_both (has_parity parity n) n (n + 1) (λ e. n ≤ e) (λ yes. omega arith) (λ no. omega arith)
