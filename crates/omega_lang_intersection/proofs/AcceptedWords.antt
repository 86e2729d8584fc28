-- What the cycle of a product accepts, its first factor accepts.
use Rattle.std.proofs.Common.{◌≡◌, ◌⊎◌, ℕ, zero, suc, ◌+◌, ◌<◌, inl, inr, Bool, true, false, not, ◌&&◌, ◌||◌, if◌then◌else◌, List, [], ◌∷◌, Contains, refl, sym, ap, ap₂, ◌∙◌, arith}
use Rattle.std.proofs.lemmas.List.Elements.{Contains-append_left, Contains-append_right}
use Rattle.omega_hoa_acceptance.specs.Acceptance.{AccTree, accepts, conjunction, constant, disjunction, fin, holds, inf, occurs}
use Rattle.omega_hoa_acceptance.specs.Kind.{buchi_formula}
use Rattle.omega_hoa_automaton.specs.Automaton.{Description, sets_of}
use Rattle.omega_lang_product.specs.Acceptance.{IsJointAcceptance, both_formulas, moved_after}
use Rattle.omega_lang_product.proofs.Conjoined.{conjoined_cases}
use Rattle.omega_lang_product.proofs.Membership.{Contains-here}
use Rattle.omega_lang_product.proofs.Holding.{and_both}

-- marks that hold the same sets below a count, one by one
abbrev pub HoldSame : ℕ → List (List ℕ) → List (List ℕ) → Type 0
HoldSame sets [] [] = Unit {0}
HoldSame sets [] (y ∷ ys) = ⊥
HoldSame sets (x ∷ xs) [] = ⊥
HoldSame sets (x ∷ xs) (y ∷ ys) = ((set : ℕ) → set < sets → holds set x ≡ holds set y) × HoldSame sets xs ys

module _ (sets : ℕ) where
  occurs_same : (negated : Bool) (set : ℕ) → set < sets → (xs ys : List (List ℕ)) → HoldSame sets xs ys → occurs xs negated set ≡ occurs ys negated set
  occurs_same negated set below [] [] same = refl
  occurs_same negated set below [] (y ∷ ys) same = absurd same
  occurs_same negated set below (x ∷ xs) [] same = absurd same
  occurs_same negated set below (x ∷ xs) (y ∷ ys) same =
      ap₂ ◌||◌ (ap (λ h. if negated then not h else h) (same.0 set below)) (occurs_same negated set below xs ys same.1)

  pub accepts_same : (formula : AccTree) → ((set : ℕ) → Contains (sets_of formula) set → set < sets) → (xs ys : List (List ℕ)) → HoldSame sets xs ys
      → accepts xs formula ≡ accepts ys formula
  accepts_same (constant value) low xs ys same = refl
  accepts_same (inf negated set) low xs ys same = occurs_same negated set (low set (Contains-here set [])) xs ys same
  accepts_same (fin negated set) low xs ys same = ap not (occurs_same negated set (low set (Contains-here set [])) xs ys same)
  accepts_same (conjunction left right) low xs ys same =
      ap₂ ◌&&◌ (accepts_same left (λ set h. low set (Contains-append_left (sets_of left) (sets_of right) set h)) xs ys same)
      (accepts_same right (λ set h. low set (Contains-append_right (sets_of left) (sets_of right) set h)) xs ys same)
  accepts_same (disjunction left right) low xs ys same =
      ap₂ ◌||◌ (accepts_same left (λ set h. low set (Contains-append_left (sets_of left) (sets_of right) set h)) xs ys same)
      (accepts_same right (λ set h. low set (Contains-append_right (sets_of left) (sets_of right) set h)) xs ys same)

-- fewer sets
fewer_by_one : (all : List (List ℕ)) (n : ℕ) → accepts all (buchi_formula (suc n)) ≡ true → accepts all (buchi_formula n) ≡ true
fewer_by_one all zero h = refl
fewer_by_one all (suc n) h = (and_both (accepts all (buchi_formula (suc n))) (accepts all (inf false (suc n))) h).0

fewer_sets : (all : List (List ℕ)) (m n : ℕ) → accepts all (buchi_formula (m + n)) ≡ true → accepts all (buchi_formula m) ≡ true
fewer_sets all m zero h = let e : m + zero ≡ m = omega arith in ap (λ k. accepts all (buchi_formula k)) (sym e) ∙ h
fewer_sets all m (suc n) h =
    let e : m + suc n ≡ suc (m + n) = omega arith in
    fewer_sets all m n (fewer_by_one all (m + n) (ap (λ k. accepts all (buchi_formula k)) (sym e) ∙ h))

-- the acceptance of the first factor
pub first_accepts : (one other both : Description) → IsJointAcceptance one other both.acc_name both.acceptance → (all : List (List ℕ))
    → accepts all both.acceptance ≡ true → accepts all one.acceptance ≡ true
first_accepts one other both (inl buchi) all h =
    ap (accepts all) buchi.both.first ∙ fewer_sets all one.sets other.sets (ap (accepts all) (sym buchi.formula_is) ∙ h)
first_accepts one other both (inr conjoined) all h =
    go (conjoined_cases one.acceptance moved) (ap (accepts all) (sym conjoined.formula_is) ∙ h)
  where
    moved : AccTree
    moved = moved_after one.sets other.acceptance

    go : ((one.acceptance ≡ constant true) × (both_formulas one.acceptance moved ≡ moved))
        ⊎ (((moved ≡ constant true) × (both_formulas one.acceptance moved ≡ one.acceptance)) ⊎ (both_formulas one.acceptance moved ≡ conjunction one.acceptance moved))
        → accepts all (both_formulas one.acceptance moved) ≡ true → accepts all one.acceptance ≡ true
    go (inl (is, left_out)) h = ap (accepts all) is
    go (inr (inl (is, left_out))) h = ap (accepts all) (sym left_out) ∙ h
    go (inr (inr whole)) h = (and_both (accepts all one.acceptance) (accepts all moved) (ap (accepts all) (sym whole) ∙ h)).0
