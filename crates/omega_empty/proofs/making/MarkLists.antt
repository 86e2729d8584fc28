-- Marks of a state and of an edge together: their priority is the greater one, and it is small.
use Rattle.std.proofs.Common.{◌≡◌, ℕ, zero, suc, ◌+◌, ◌-◌, ◌<◌, ◌≤◌, ◌||◌, Bool, true, false, cond, nat_eq, List, [], ◌∷◌, ◌++◌, length, max, min, All, ap, refl, ◌∙◌, arith}
use Rattle.std.proofs.lemmas.List.Folds.{list_any-append}
use Rattle.std.proofs.lemmas.List.Elements.{All-head, All-tail}
use Rattle.omega_hoa_parity_kind.specs.Priority.{beyond, has_parity, least_from, least_mark, priority_by, priority_of}
use Rattle.omega_hoa_parity_kind.specs.declared.kind.Order.{Order}
use Rattle.omega_hoa_parity_kind.specs.declared.kind.Order.TheVariants.{Max, Min}
use Rattle.omega_hoa_parity_kind.specs.declared.kind.Parity.{Parity}
use Rattle.omega_hoa_parity_kind.specs.declared.kind.Parity.TheVariants.{Even, Odd}
use Rattle.omega_hoa_parity_kind.specs.declared.kind.ParityKind.{ParityKind}
use Rattle.omega_hoa_acceptance.specs.Acceptance.{acc_depth, conjunction, disjunction, fin, holds, inf}
use Rattle.omega_hoa_acceptance.specs.Kind.{formula_of, parity_formula, sets_left}

-- a set is held by the one or by the other
pub holds_on : (set : ℕ) (xs ys : List ℕ) → holds set (xs ++ ys) ≡ (holds set xs || holds set ys)
holds_on set xs ys = list_any-append (λ mark. nat_eq mark set) xs ys

beyond_on : (xs ys : List ℕ) → beyond (xs ++ ys) ≡ max (beyond xs) (beyond ys)
beyond_on [] ys = omega arith
beyond_on (x ∷ xs) ys = omega (arith, beyond_on xs ys)

least_on : (count : ℕ) (xs ys : List ℕ) → least_mark count (xs ++ ys) ≡ min (least_mark count xs) (least_mark count ys)
least_on count [] ys = omega (arith, least_low count ys)
  where
    least_low : (count : ℕ) (ys : List ℕ) → least_mark count ys ≤ count
    least_low count [] = omega arith
    least_low count (y ∷ ys) = omega (arith, least_low count ys)
least_on count (x ∷ xs) ys = omega (arith, least_on count xs ys)

-- the priority of marks together is the greater one
pub of_joined : (kind : ParityKind) (xs ys : List ℕ) → priority_of kind (xs ++ ys) ≡ max (priority_of kind xs) (priority_of kind ys)
of_joined kind xs ys = go kind.order kind.parity
  where
    go : (order : Order) (parity : Parity) → priority_by order parity kind.count (xs ++ ys)
        ≡ max (priority_by order parity kind.count xs) (priority_by order parity kind.count ys)
    go Max Even = omega (arith, beyond_on xs ys)
    go Max Odd = beyond_on xs ys
    go Min parity =
        ap (λ n. least_from parity kind.count - n) (least_on kind.count xs ys)
        ∙ swaps (least_from parity kind.count) (least_mark kind.count xs) (least_mark kind.count ys)
      where
        swaps : (n x y : ℕ) → n - min x y ≡ max (n - x) (n - y)
        swaps n x y = omega arith

beyond_low : (count : ℕ) (xs : List ℕ) → All (λ mark. mark < count) xs → beyond xs ≤ count
beyond_low count [] below = omega arith
beyond_low count (x ∷ xs) below =
    omega (arith, All-head (λ mark. mark < count) x xs below, beyond_low count xs (All-tail (λ mark. mark < count) x xs below))

least_from_low : (parity : Parity) (count : ℕ) → least_from parity count ≤ count + 1
least_from_low parity count = go (has_parity parity count)
  where
    go : (b : Bool) → cond b count (count + 1) ≤ count + 1
    go true = omega arith
    go false = omega arith

-- it is at most one more than the count of sets
pub bounded : (kind : ParityKind) (xs : List ℕ) → All (λ mark. mark < kind.count) xs → priority_of kind xs ≤ kind.count + 1
bounded kind xs below = go kind.order kind.parity
  where
    go : (order : Order) (parity : Parity) → priority_by order parity kind.count xs ≤ kind.count + 1
    go Max Even = omega (arith, beyond_low kind.count xs below)
    go Max Odd = omega (arith, beyond_low kind.count xs below)
    go Min parity = omega (arith, least_from_low parity kind.count)

-- a parity formula is at least as deep as it has sets
formula_deep : (order : Order) (parity : Parity) (sets : List ℕ) → length sets ≤ acc_depth (formula_of order parity sets)
formula_deep order parity [] = omega arith
formula_deep order parity (set ∷ []) = go (has_parity parity set)
  where
    go : (b : Bool) → 1 ≤ acc_depth (cond b (inf false set) (fin false set))
    go true = omega arith
    go false = omega arith
formula_deep order parity (set ∷ next ∷ rest) = go (has_parity parity set) (formula_deep order parity (next ∷ rest))
  where
    go : (b : Bool) → suc (length rest) ≤ acc_depth (formula_of order parity (next ∷ rest))
        → suc (suc (length rest)) ≤ acc_depth (cond b (disjunction (inf false set) (formula_of order parity (next ∷ rest))) (conjunction (fin false set) (formula_of order parity (next ∷ rest))))
    go true deep = omega arith
    go false deep = omega arith

length-sets_left : (order : Order) (count following : ℕ) → length (sets_left order count following) ≡ following
length-sets_left order count zero = refl
length-sets_left order count (suc following) = ap suc (length-sets_left order count following)

-- so its count of sets is at most its depth
pub count_shallow : (kind : ParityKind) → kind.count ≤ acc_depth (parity_formula kind)
count_shallow kind =
    omega (arith, formula_deep kind.order kind.parity (sets_left kind.order kind.count kind.count), length-sets_left kind.order kind.count kind.count)
