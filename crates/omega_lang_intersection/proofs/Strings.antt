-- The names of a product are strings where those of both automata are.
use Rattle.std.proofs.Common.{Bool, true, false, List, [], ◌∷◌, ◌++◌, cond, filter}
use Rattle.std.specs.List.{AllByRecursion}

module _ {X : Type 0} (P : X → Type 0) where
  pub all_both : (xs ys : List X) → AllByRecursion P xs → AllByRecursion P ys → AllByRecursion P (xs ++ ys)
  all_both [] ys first second = second
  all_both (x ∷ xs) ys first second = (first.0, all_both xs ys first.1 second)

  pub all_filtered : (test : X → Bool) (xs : List X) → AllByRecursion P xs → AllByRecursion P (filter test xs)
  all_filtered test [] all = tt
  all_filtered test (x ∷ xs) all = go (test x) (all_filtered test xs all.1)
    where
      go : (b : Bool) → AllByRecursion P (filter test xs) → AllByRecursion P (cond b (x ∷ filter test xs) (filter test xs))
      go true rest = (all.0, rest)
      go false rest = rest
