-- The greatest of numbers, and whether all are below a count.
use Rattle.std.proofs.Common.{◌≡◌, ℕ, ◌<◌, ◌≤◌, true, false, nat_lt, List, [], ◌∷◌, inl, inr, arith}
use Rattle.std.specs.List.{list_all}
use Rattle.std.proofs.lemmas.Bool.{and_cases, and_parts, ltb-false, ltb-true}
use Rattle.omega_hoa_automaton.specs.Faults.{greatest_of}

-- numbers are below a count, and so is the greatest
pub all_below : (numbers : List ℕ) (count : ℕ) → 0 < count → list_all (λ set. nat_lt set count) numbers ≡ true → greatest_of (λ set. set) numbers < count
all_below [] count some all = some
all_below (n ∷ numbers) count some all =
    let both = and_parts (nat_lt n count) (list_all (λ set. nat_lt set count) numbers) all in
    omega (arith, ltb-true n count both.0, all_below numbers count some both.1)

-- some number is not below a count, and so is not the greatest
pub some_beyond : (numbers : List ℕ) (count : ℕ) → list_all (λ set. nat_lt set count) numbers ≡ false → count ≤ greatest_of (λ set. set) numbers
some_beyond [] count none = absurd (cc)
some_beyond (n ∷ numbers) count none =
    elim (and_cases (nat_lt n count) (list_all (λ set. nat_lt set count) numbers) none) [
      | inl here ↦ omega (arith, ltb-false n count here)
      | inr later ↦ omega (arith, some_beyond numbers count later)
    ]
