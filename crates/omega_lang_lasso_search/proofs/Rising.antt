-- Lists of numbers that rise.
use Rattle.std.proofs.Common.{◌≡◌, ℕ, ◌+◌, ◌<◌, inl, inr, List, [], ◌∷◌, ◌++◌, length, get_or, Contains, arith}
use Rattle.std.specs.List.Sorted.{IsStrictlyIncreasing}
use Rattle.std.proofs.lemmas.Bool.{cases_lt}
use Rattle.std.proofs.lemmas.List.{get_or_append_left, get_or_push, length_push}
use Rattle.std.proofs.lemmas.List.Elements.{Contains-get_or}

-- numbers that rise do so with a number above all of them at the end
pub above_rises : (xs : List ℕ) (x : ℕ) → IsStrictlyIncreasing xs → ((m : ℕ) → Contains xs m → m < x) → IsStrictlyIncreasing (xs ++ x ∷ [])
above_rises xs x rising above k within =
    let long : length (xs ++ x ∷ []) ≡ length xs + 1 = length_push xs x in
    let here : k < length xs = omega (arith, long, within) in
    let first : get_or (xs ++ x ∷ []) k 0 ≡ get_or xs k 0 = get_or_append_left xs (x ∷ []) 0 k here in
    elim (cases_lt (k + 1) (length xs)) [
      | inl inside ↦
          let second : get_or (xs ++ x ∷ []) (k + 1) 0 ≡ get_or xs (k + 1) 0 = get_or_append_left xs (x ∷ []) 0 (k + 1) inside in
          omega (arith, first, second, rising k inside)
      | inr past ↦
          let last : length xs ≡ k + 1 = omega (arith, here, past) in
          let second : get_or (xs ++ x ∷ []) (k + 1) 0 ≡ x = get_or_push xs x 0 (k + 1) last in
          omega (arith, first, second, above (get_or xs k 0) (Contains-get_or xs k 0 here))
    ]
