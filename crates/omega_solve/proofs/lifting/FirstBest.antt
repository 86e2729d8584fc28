-- The first best of the elements looked at so far.
use Rattle.std.proofs.Common.{inl, inr, ◌≡◌, ◌≢◌, ℕ, ◌+◌, ◌≤◌, List, Some, length, arith}
use Rattle.std.specs.List.{slice_get}
use Rattle.std.specs.Cmp.{IsTotalOrder}
use Rattle.std.specs.declared.cmp.Ordering.{Ordering}
use Rattle.std.specs.declared.cmp.Ordering.TheVariants.{Equal}
use Rattle.std.proofs.lemmas.Bool.{cases_eq}
use Rattle.std.proofs.lemmas.Cmp.{tied_itself}
use Rattle.std.proofs.lemmas.Option.{slice_get_within}
use Rattle.omega_solve.specs.private.solving.Successor.{IsFirstBest}
use Rattle.omega_solve.proofs.lifting.Order.{ahead, wanted_trans}

-- the first element is the first best of itself
pub first_best_one : (order : ℕ → ℕ → Ordering) (wanted : Ordering) (xs : List ℕ) (x : ℕ)
    → IsTotalOrder order → wanted ≢ Equal → slice_get xs 0 ≡ Some x → IsFirstBest order wanted xs 1 x
first_best_one order wanted xs x o ne at = record {
  index = 0;
  inside = omega arith;
  listed = at;
  best = λ j u lt at_u same.
      let e : j ≡ 0 = omega arith in
      let same_place : u ≡ x = cc in
      let tied : order x x ≡ Equal = tied_itself o x in
      ne (cc);
  first = λ j u lt at_u. absurd (omega arith);
}

-- the first best stays so if the next element does not compare to it as wanted
pub first_best_same : (order : ℕ → ℕ → Ordering) (wanted : Ordering) (xs : List ℕ) (i x u : ℕ)
    → IsFirstBest order wanted xs i x → slice_get xs i ≡ Some u → order u x ≢ wanted → IsFirstBest order wanted xs (i + 1) x
first_best_same order wanted xs i x u b at other = record {
  index = b.index;
  inside = let inside = b.inside in omega arith;
  listed = b.listed;
  best = λ j v lt at_v. elim (cases_eq j i) [
    | inl e ↦ λ same. other (let same_place : v ≡ u = cc in cc)
    | inr ne ↦ b.best j v (omega arith) at_v
  ];
  first = b.first;
}

-- and the next element is the first best if it does
pub first_best_more : (order : ℕ → ℕ → Ordering) (wanted : Ordering) (xs : List ℕ) (i x u : ℕ)
    → IsTotalOrder order → wanted ≢ Equal
    → IsFirstBest order wanted xs i x → slice_get xs i ≡ Some u → order u x ≡ wanted → IsFirstBest order wanted xs (i + 1) u
first_best_more order wanted xs i x u o ne b at better = record {
  index = i;
  inside = omega arith;
  listed = at;
  best = λ j v lt at_v. elim (cases_eq j i) [
    | inl e ↦ λ same.
        let same_place : v ≡ u = cc in
        let tied : order u u ≡ Equal = tied_itself o u in
        ne (cc)
    | inr other ↦ λ same. b.best j v (omega arith) at_v (wanted_trans o wanted ne v u x same better)
  ];
  first = λ j v lt at_v. ahead o wanted ne u x v better (b.best j v lt at_v);
}

-- the first best of at least all elements is that of all
pub first_best_within : (order : ℕ → ℕ → Ordering) (wanted : Ordering) (xs : List ℕ) (count x : ℕ)
    → length xs ≤ count → IsFirstBest order wanted xs count x → IsFirstBest order wanted xs (length xs) x
first_best_within order wanted xs count x all b = record {
  index = b.index;
  inside = slice_get_within xs b.index x b.listed;
  listed = b.listed;
  best = λ j u lt at. b.best j u (omega arith) at;
  first = b.first;
}
