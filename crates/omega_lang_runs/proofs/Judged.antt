-- Edges that were judged one by one.
use Rattle.std.proofs.Common.{◌≡◌, ◌↔◌, ℕ, zero, suc, Bool, true, List, [], ◌∷◌, ◌++◌, length, Some, None, ap, refl, subst}
use Rattle.std.specs.Prelude.{IsTrue, slice_get}
use Rattle.omega_hoa_automaton.specs.Automaton.{BodyEdge, Description, edges_of}
use Rattle.omega_lang_runs.specs.Judging.{AreUsable}
use Rattle.omega_lang_runs.specs.Lasso.{IsUsable}
use Rattle.omega_lang_runs.specs.Judging.{AreJudged}

-- two lists of judged edges, joined
pub judged_on : (xs : List BodyEdge) (us : List Bool) (ys : List BodyEdge) (vs : List Bool) → AreJudged xs us → AreJudged ys vs → AreJudged (xs ++ ys) (us ++ vs)
judged_on [] [] ys vs first second = second
judged_on [] (u ∷ us) ys vs first second = absurd first
judged_on (x ∷ xs) [] ys vs first second = absurd first
judged_on (x ∷ xs) (u ∷ us) ys vs first second = (first.0, judged_on xs us ys vs first.1 second)

-- one edge
pub judged_one : (x : BodyEdge) (u : Bool) → (IsTrue u ↔ IsUsable x) → AreJudged (x ∷ []) (u ∷ [])
judged_one x u judged = (judged, tt)

length_judged : (xs : List BodyEdge) (us : List Bool) → AreJudged xs us → length us ≡ length xs
length_judged [] [] judged = refl
length_judged [] (u ∷ us) judged = absurd judged
length_judged (x ∷ xs) [] judged = absurd judged
length_judged (x ∷ xs) (u ∷ us) judged = ap suc (length_judged xs us judged.1)

judged_at : (xs : List BodyEdge) (us : List Bool) → AreJudged xs us → (number : ℕ) (edge : BodyEdge) → slice_get xs number ≡ Some edge
    → (slice_get us number ≡ Some true) ↔ IsUsable edge
judged_at [] [] judged number edge here = absurd (nothing here)
  where
    nothing : None ≡ Some edge → ⊥
    nothing e = cc
judged_at [] (u ∷ us) judged number edge here = absurd judged
judged_at (x ∷ xs) [] judged number edge here = absurd judged
judged_at (x ∷ xs) (u ∷ us) judged zero edge here =
    let same : x ≡ edge = some_same x edge here in
    let P : BodyEdge → Type 0 = λ e. (Some u ≡ Some true) ↔ IsUsable e in
    subst P same ((λ is. judged.0.0 (some_bool u is)), λ usable. ap (λ b. Some b) (judged.0.1 usable))
  where
    some_same : (x y : BodyEdge) → Some x ≡ Some y → x ≡ y
    some_same x y e = cc

    some_bool : (u : Bool) → Some u ≡ Some true → u ≡ true
    some_bool u e = cc
judged_at (x ∷ xs) (u ∷ us) judged (suc number) edge here = judged_at xs us judged.1 number edge here

-- judged edges, by number
pub judged_usable : (a : Description) (usable : List Bool) → AreJudged (edges_of a) usable → AreUsable a usable
judged_usable a usable judged = record {
  entries = length_judged (edges_of a) usable judged;
  judged = judged_at (edges_of a) usable judged;
}
