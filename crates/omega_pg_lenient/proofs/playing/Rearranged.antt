-- A rearrangement of a list under a function is one of the list, under the function.
use Rattle.std.proofs.Common.{◌≡◌, ℕ, List, [], ◌∷◌, map, get_or, set, refl, ap, ap₂, sym, ◌∙◌, subst}
use Rattle.std.specs.List.{swap}
use Rattle.std.specs.List.Sorted.{IsPermutation, SwapsInRange, apply_swaps}
use Rattle.std.proofs.Math.ListN.{get_or-map}
use Rattle.std.proofs.lemmas.List.{length-map, map-set}

module _ {X Y : Type 0} (f : X → Y) where
  -- two elements that change places
  map_swap : (xs : List X) (i j : ℕ) → map f (swap xs i j) ≡ swap (map f xs) i j
  map_swap [] i j = refl
  map_swap (d ∷ ys) i j =
      let xs = d ∷ ys in
      map-set f (set xs i (get_or xs j d)) j (get_or xs i d)
      ∙ ap₂ (λ list y. set list j y)
      (map-set f xs i (get_or xs j d) ∙ ap (set (map f xs) i) (sym (get_or-map f xs j d)))
      (sym (get_or-map f xs i d))

  -- many that do
  map_swaps : (xs : List X) (moves : List (ℕ × ℕ)) → map f (apply_swaps xs moves) ≡ apply_swaps (map f xs) moves
  map_swaps xs [] = refl
  map_swaps xs (move ∷ moves) =
      map_swap (apply_swaps xs moves) move.0 move.1 ∙ ap (λ list. swap list move.0 move.1) (map_swaps xs moves)

  -- a rearrangement of the list that is this one under the function
  pub record IsRearrangedTo (xs : List X) (ys : List Y) : Type 0 where
    pub list : List X
    pub rearranged : IsPermutation xs list
    pub same : map f list ≡ ys

  pub rearranged_under : (xs : List X) (ys : List Y) → IsPermutation (map f xs) ys → IsRearrangedTo xs ys
  rearranged_under xs ys permuted = record {
    list = apply_swaps xs permuted.moves;
    rearranged = record {
      moves = permuted.moves;
      below = subst (λ n. SwapsInRange n permuted.moves) (length-map xs f) permuted.below;
      is = refl;
    };
    same = map_swaps xs permuted.moves ∙ sym permuted.is;
  }
