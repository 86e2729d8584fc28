-- What holds of each element of a list, and of the last.
use Rattle.std.proofs.Common.{◌≡◌, List, [], ◌∷◌, ◌++◌, subst}
use Rattle.std.specs.List.{AllByRecursion}

module _ {X : Type 0} (P : X → Type 0) where
  pub all_push : (rest : List X) (last : X) → AllByRecursion P rest → P last → AllByRecursion P (rest ++ last ∷ [])
  all_push [] last all is = (is, tt)
  all_push (first ∷ rest) last all is = (all.0, all_push rest last all.1 is)

  all_parts : (rest : List X) (last : X) → AllByRecursion P (rest ++ last ∷ []) → AllByRecursion P rest × P last
  all_parts [] last all = (tt, all.0)
  all_parts (first ∷ rest) last all = let parts = all_parts rest last all.1 in ((all.0, parts.0), parts.1)

  -- the same of a list that ends so
  pub all_rest : (items rest : List X) (last : X) → items ≡ rest ++ last ∷ [] → AllByRecursion P items → AllByRecursion P rest
  all_rest items rest last split all = (all_parts rest last (subst (AllByRecursion P) split all)).0

  pub all_last : (items rest : List X) (last : X) → items ≡ rest ++ last ∷ [] → AllByRecursion P items → P last
  all_last items rest last split all = (all_parts rest last (subst (AllByRecursion P) split all)).1
