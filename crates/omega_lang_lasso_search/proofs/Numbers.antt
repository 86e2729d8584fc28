-- The numbers below a count.
use Rattle.std.proofs.Common.{◌≡◌, ℕ, ◌+◌, ◌<◌, length, get_or, All, Contains, sym, subst, ◌∙◌, arith}
use Rattle.std.specs.List.{range_with_len}
use Rattle.std.proofs.lemmas.List.FromFn.{get_or-range_with_len, length-range_with_len}
use Rattle.std.proofs.lemmas.Option.{slice_get_within}
use Rattle.omega_hoa_automaton.specs.Automaton.{Description, edges_of}
use Rattle.omega_lang_lasso_search.specs.Tabled.{AllAreUsable, AreUsableEdges}

-- each of them is below the count, and each number below it is one of them
pub numbers_inside : (n : ℕ) → All (λ number. number < n) (range_with_len 0 n)
numbers_inside n k d inside =
    let low : k < n = omega (arith, inside, length-range_with_len 0 n) in
    let is : get_or (range_with_len 0 n) k d ≡ 0 + k = get_or-range_with_len 0 n k d low in
    omega (arith, low, is)

numbers_all : (n number : ℕ) → number < n → Contains (range_with_len 0 n) number
numbers_all n number below =
    let is : 0 + number ≡ number = omega arith in
    (number, omega (arith, below, length-range_with_len 0 n), get_or-range_with_len 0 n number number below ∙ is)

-- if all edges are usable, the numbers below their count are those of the usable ones
pub all_usable : (a : Description) (count : ℕ) → length (edges_of a) ≡ count → AllAreUsable a → AreUsableEdges a (range_with_len 0 count)
all_usable a count counted usable = record {
  below = subst (λ n. All (λ number. number < n) (range_with_len 0 count)) (sym counted) (numbers_inside count);
  exact = λ number edge stands. (
    λ has. usable number edge stands,
    λ is. numbers_all count number (omega (arith, slice_get_within (edges_of a) number edge stands, counted)),
  );
}
