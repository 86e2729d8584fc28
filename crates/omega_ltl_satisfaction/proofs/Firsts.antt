-- The first of some conjuncts, and the others.
use Rattle.std.proofs.Common.{◌≡◌, ◌-◌, ◌<◌, List, [], ◌∷◌, length, get_or, take, drop, take_all, refl, sym}
use Rattle.std.proofs.Common.{ap, subst, arith}
use Rattle.std.specs.List.{AllByRecursion}
use Rattle.omega_ltl_formula.specs.Formula.{FormulaTree}
use Rattle.omega_ltl_formula.specs.Table.{FormulaTable}
use Rattle.omega_ltl_satisfaction.specs.declared.conjunct.Conjunct.{Conjunct}
use Rattle.omega_ltl_satisfaction.specs.private.Conjuncts.{AreSome}

-- the others, as the code takes them
abbrev pub others : List Conjunct → List Conjunct
others xs = take (length xs - 1) (drop 1 xs)

others_are : (x : Conjunct) (xs : List Conjunct) → others (x ∷ xs) ≡ xs
others_are x xs = take_all (length (x ∷ xs) - 1) xs (omega arith)

pub first_and_others : (xs : List Conjunct) (d : Conjunct) → 0 < length xs → xs ≡ get_or xs 0 d ∷ others xs
first_and_others [] d some = absurd (omega (arith, some))
first_and_others (x ∷ xs) d some = ap (λ (l : List Conjunct). x ∷ l) (sym (others_are x xs))

pub only_first : (xs : List Conjunct) (d : Conjunct) → length xs ≡ 1 → xs ≡ get_or xs 0 d ∷ []
only_first [] d one = absurd (omega (arith, one))
only_first (x ∷ []) d one = refl
only_first (x ∷ y ∷ xs) d one = absurd (omega (arith, one))

pub others_some : (xs : List Conjunct) → 0 < length xs → ¬ (length xs ≡ 1) → 0 < length (others xs)
others_some [] some more = absurd (omega (arith, some))
others_some (x ∷ xs) some more = let e = ap length (others_are x xs) in omega (arith, e, more)

pub others_fewer : (xs : List Conjunct) → 0 < length xs → length (others xs) < length xs
others_fewer [] some = absurd (omega (arith, some))
others_fewer (x ∷ xs) some = let e = ap length (others_are x xs) in omega (arith, e)

module _ (P : Conjunct → Type 0) where
  pub first_all : (xs : List Conjunct) (d : Conjunct) → 0 < length xs → AllByRecursion P xs → P (get_or xs 0 d)
  first_all [] d some all = absurd (omega (arith, some))
  first_all (x ∷ xs) d some all = all.0

  pub others_all : (xs : List Conjunct) → 0 < length xs → AllByRecursion P xs → AllByRecursion P (others xs)
  others_all [] some all = absurd (omega (arith, some))
  others_all (x ∷ xs) some all = subst (AllByRecursion P) (sym (others_are x xs)) all.1

pub others_are_some : (table : FormulaTable) (whole : FormulaTree) (xs : List Conjunct) → 0 < length xs → AreSome table whole xs → AreSome table whole (others xs)
others_are_some table whole xs some are = record {
  within = others_all _ xs some are.within;
  each = others_all _ xs some are.each;
}
