-- Sums over lists whose elements are at other places.
use Rattle.std.proofs.Common.{◌≡◌, ℕ, suc, ◌<◌, ◌≤◌, List, [], ◌∷◌, length, map, get_or, set, sum_by, refl, sym, ap, ◌∙◌, arith}
use Rattle.std.proofs.lemmas.List.{get_or-map, get_or-set_other, length-map, length-set}
use Rattle.std.proofs.lemmas.List.Sums.{sum_by-cons, sum_by-set}
use Rattle.omega_game_values.proofs.elements.Counting.{sum_by-map}
use Rattle.omega_lift_schedules.specs.Permutation.{AreInverse}

abbrev total : List ℕ → ℕ
total xs = sum_by (λ x. x) xs

-- numbers that are in another list too, each at a place of its own, come to no more than that list
fitting : (xs ys : List ℕ) (to : ℕ → ℕ)
    → ((i : ℕ) → i < length xs → (to i < length ys) × (get_or ys (to i) 0 ≡ get_or xs i 0))
    → ((i j : ℕ) → i < length xs → j < length xs → to i ≡ to j → i ≡ j)
    → total xs ≤ total ys
fitting [] ys to there apart = let none : total [] ≡ 0 = refl in omega (arith, none)
fitting (x ∷ xs) ys to there apart =
    let here = there 0 (omega arith) in
    let rest = fitting xs (set ys (to 0) 0) (λ i. to (suc i)) others (λ i j lt below same. omega (arith, apart (suc i) (suc j) (omega arith) (omega arith) same)) in
    omega (arith, sum_by-cons (λ (n : ℕ). n) x xs, sum_by-set (λ (n : ℕ). n) ys (to 0) 0 0 here.0, here.1, rest)
  where
    others : (i : ℕ) → i < length xs → (to (suc i) < length (set ys (to 0) 0)) × (get_or (set ys (to 0) 0) (to (suc i)) 0 ≡ get_or xs i 0)
    others i lt =
        let there_too = there (suc i) (omega arith) in (
          omega (arith, there_too.0, length-set ys (to 0) 0),
          get_or-set_other ys (to 0) (to (suc i)) 0 0 (λ same. (let e = apart (suc i) 0 (omega arith) (omega arith) same in omega (arith, e))) ∙ there_too.1,
        )

module _ {X : Type 0} (f : X → ℕ) (xs ys : List X) (d : X) where
  -- if each element is at its position, the sum is at most that of the other list
  pub sum_fits : (positions places : List ℕ) → AreInverse positions places → length positions ≡ length xs → length places ≡ length ys
      → ((v : ℕ) → v < length xs → f (get_or ys (get_or positions v 0) d) ≡ f (get_or xs v d))
      → sum_by f xs ≤ sum_by f ys
  sum_fits positions places inverse positioned placed same =
      let weights = fitting (map f xs) (map f ys) (λ i. get_or positions i 0) there apart in
      omega (arith, sum_by-map (λ (n : ℕ). n) f xs, sum_by-map (λ (n : ℕ). n) f ys, weights)
    where
      there : (i : ℕ) → i < length (map f xs) → (get_or positions i 0 < length (map f ys)) × (get_or (map f ys) (get_or positions i 0) 0 ≡ get_or (map f xs) i 0)
      there i lt =
          let below : i < length xs = omega (arith, length-map xs f) in
          let back = inverse.positioned i (omega (arith, positioned)) in
          let within : get_or positions i 0 < length ys = omega (arith, back.0, placed) in (
            omega (arith, within, length-map ys f),
            get_or-map f ys (get_or positions i 0) d 0 within ∙ same i below ∙ sym (get_or-map f xs i d 0 below),
          )

      apart : (i j : ℕ) → i < length (map f xs) → j < length (map f xs) → get_or positions i 0 ≡ get_or positions j 0 → i ≡ j
      apart i j lt below e =
          let one = inverse.positioned i (omega (arith, positioned, length-map xs f)) in
          let other = inverse.positioned j (omega (arith, positioned, length-map xs f)) in
          sym one.1 ∙ ap (λ (r : ℕ). get_or places r 0) e ∙ other.1
