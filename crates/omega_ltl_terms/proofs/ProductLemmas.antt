-- Terms that are put together cover combinations.
use Rattle.std.proofs.Common.{◌≡◌, inl, inr, ◌<◌, ℕ, Bool, true, false, not, List, [], length}
use Rattle.std.proofs.Common.{refl, sym, subst, ◌∙◌, arith}
use Rattle.std.specs.Prelude.{Contains, IsTrue}
use Rattle.std.proofs.lemmas.Bool.{false≢true}
use Rattle.omega_ltl_shapes.specs.Covers.{Covers, HasLiteral, is_set}
use Rattle.omega_ltl_shapes.specs.Demands.{IsLiteralTrue, Valuation}
use Rattle.omega_ltl_shapes.specs.Graphs.{IsGood}
use Rattle.omega_ltl_shapes.specs.Terms.{AreContradictory, IsCubeOfBoth, IsLiteralCube, IsOfBoth, IsWithin}
use Rattle.omega_ltl_shapes.specs.declared.combination.Combination.TheVariants.{Both, Cases, Constant, Either}
use Rattle.omega_ltl_shapes.specs.declared.combination.Combination.TheVariants.{Literal, Same}
use Rattle.omega_ltl_shapes.specs.declared.cube.Cube.{Cube}
use Rattle.omega_ltl_shapes.specs.declared.shape.Shape.{Shape}
use Rattle.omega_ltl_shapes.specs.declared.term.Term.{Term}
use Rattle.omega_ltl_shapes.proofs.Covering.{covers_more}
use Rattle.omega_ltl_terms.specs.Adding.{AddsMinimal, HasGood, HasWithin}
use Rattle.omega_ltl_terms.specs.Products.{AddsCombination, AddsJoins, AddsPairs, AreTerms, JoinsOne, terms_at}
use Rattle.omega_ltl_terms.specs.Ways.{IsBeside, beside_both, beside_constant, beside_first, beside_left}
use Rattle.omega_ltl_terms.specs.Ways.{beside_literal, beside_right, beside_same, beside_second}
use Rattle.omega_ltl_shapes.proofs.BitLemmas.{none_in_zero}
use Rattle.omega_ltl_terms.proofs.Adding.{has_good_kept, keeps_itself, keeps_more}
use Rattle.omega_ltl_terms.proofs.Within.{first_within, has_good_within, second_within, within_itself, within_more}

pub constant_none : (shapes : List Shape) (with : Term) (old : List Term) → AddsCombination shapes with (Constant false) old old
constant_none shapes with old = record {
  keeps = keeps_itself old;
  only = λ t h. inl h;
  ways = λ t h. inl h;
  good = λ room strongs v i one says. absurd (false≢true says);
}

pub constant_added : (shapes : List Shape) (with copy : Term) (old new : List Term) → copy ≡ with → AddsMinimal copy old new
    → AddsCombination shapes with (Constant true) old new
constant_added shapes with copy old new is a = record {
  keeps = a.keeps;
  only = λ t h. elim (a.only t h) [
    | inl there ↦ inl there
    | inr same ↦ inr (subst (λ (u : Term). IsWithin with u × (true ≡ true)) (sym (same ∙ is)) (within_itself with, refl))
  ];
  ways = λ t h. elim (a.only t h) [
    | inl there ↦ inl there
    | inr same ↦ inr (subst (IsBeside shapes with (Constant true)) (sym (same ∙ is)) (beside_constant with))
  ];
  good = λ room strongs v i one says. has_good_within strongs v i new copy (a.added room) (subst (λ (t : Term). IsGood strongs v i t) (sym is) one);
}

both_signs : (b : Bool) → IsTrue b → IsTrue (not b) → ⊥
both_signs true sure never = false≢true never
both_signs false sure never = false≢true sure

opposed : (held : ℕ → Bool) (n : ℕ) (s : Bool) → IsLiteralTrue held n (not s) → IsLiteralTrue held n s → ⊥
opposed held n true a b = both_signs (held n) a b
opposed held n false a b = both_signs (held n) b a

-- a literal is put beside
module _ (shapes : List Shape) (with : Term) (name : ℕ) (negated : Bool) (literal : Cube) (is : IsLiteralCube name negated literal) (old : List Term) where
  pub literal_added : (joined : Term) (new : List Term) → IsCubeOfBoth with.cube literal joined.cube
      → (AreContradictory with.cube literal → ⊥) → joined.next ≡ with.next → joined.late ≡ with.late
      → AddsMinimal joined old new → AddsCombination shapes with (Literal name negated) old new
  literal_added joined new both agree next late a = record {
    keeps = a.keeps;
    only = λ t h. elim (a.only t h) [
      | inl there ↦ inl there
      | inr same ↦ inr (subst (λ (u : Term). IsWithin with u × HasLiteral u.cube name negated) (sym same) (within, (both name negated).1 (inr ((is name negated).1 (refl, refl)))))
    ];
    ways = λ t h. elim (a.only t h) [
      | inl there ↦ inl there
      | inr same ↦ inr (subst (IsBeside shapes with (Literal name negated)) (sym same) (beside_literal with alone joined name negated (record { cube = is; next = refl; late = refl })
          (record { agree = agree; of_both = beside })))
    ];
    good = λ room strongs v i one says. has_good_within strongs v i new joined (a.added room) (good strongs v i one says);
  }
    where
      alone : Term
      alone = record { cube = literal; next = []; late = 0 }

      beside : IsOfBoth with alone joined
      beside = record {
        literals = both;
        next = λ d. (
          λ h. inl (subst (λ (l : List ℕ). Contains l d) next h),
          λ h. elim h [ inl x ↦ subst (λ (l : List ℕ). Contains l d) (sym next) x | inr y ↦ absurd (omega (arith, y.1)) ],
        );
        late = λ place. (
          λ h. inl (subst (λ (w : ℕ). IsTrue (is_set w place)) late h),
          λ h. elim h [ inl x ↦ subst (λ (w : ℕ). IsTrue (is_set w place)) (sym late) x | inr y ↦ absurd (false≢true (sym (none_in_zero place) ∙ y)) ],
        );
      }

      within : IsWithin with joined
      within = record {
        literals = λ n s h. (both n s).1 (inl h);
        next = λ d h. subst (λ (l : List ℕ). Contains l d) (sym next) h;
        late = λ place h. subst (λ (w : ℕ). IsTrue (is_set w place)) (sym late) h;
      }

      good : (strongs : List ℕ) (v : Valuation shapes) (i : ℕ) → IsGood strongs v i with → IsLiteralTrue (v.held i) name negated → IsGood strongs v i joined
      good strongs v i one says = record {
        literals = λ n s h. elim ((both n s).0 h) [
          | inl x ↦ one.literals n s x
          | inr y ↦ (let e = (is n s).0 y in
              subst (λ (m : ℕ). IsLiteralTrue (v.held i) m s) (sym e.0) (subst (λ (b : Bool). IsLiteralTrue (v.held i) name b) (sym e.1) says))
        ];
        next = λ d h. one.next d (subst (λ (l : List ℕ). Contains l d) next h);
        strong = λ set h. one.strong set (subst (λ (w : ℕ). IsTrue (is_set w set)) late h);
        late = λ set h. one.late set (subst (λ (w : ℕ). IsTrue (is_set w set)) late h);
        no_goal = λ set h. one.no_goal set (subst (λ (w : ℕ). IsTrue (is_set w set)) late h);
      }

  pub literal_none : AreContradictory with.cube literal → AddsCombination shapes with (Literal name negated) old old
  literal_none apart = record {
    keeps = keeps_itself old;
    only = λ t h. inl h;
    ways = λ t h. inl h;
    good = λ room strongs v i one says. absurd (elim apart.1 [
      | inl h ↦ contrary (v.held i) apart.0 true (is apart.0 true).0 h.1 (one.literals apart.0 false h.0) says
      | inr h ↦ contrary (v.held i) apart.0 false (is apart.0 false).0 h.1 (one.literals apart.0 true h.0) says
    ]);
  }
    where
      contrary : (held : ℕ → Bool) (n : ℕ) (s : Bool) → (HasLiteral literal n s → (n ≡ name) × (s ≡ negated)) → HasLiteral literal n s
          → IsLiteralTrue held n (not s) → IsLiteralTrue held name negated → ⊥
      contrary held n s here h a b =
          let e = here h in
          opposed held n s a (subst (λ (m : ℕ). IsLiteralTrue held m s) (sym e.0) (subst (λ (c : Bool). IsLiteralTrue held name c) (sym e.1) b))

-- by the terms of demands
module _ (shapes : List Shape) (all : List (List Term)) (are : AreTerms shapes all) (with : Term) (old : List Term) where
  -- what a term of a demand is within covers the demand
  covered : (d : ℕ) → d < length all → (term : Term) → HasWithin (terms_at all d) term → Covers shapes term.cube term.next d
  covered d low term has = covers_more shapes are.grounded has.0.cube term.cube has.0.next term.next has.2.literals has.2.next d ((are.each d low).cover has.0 has.1)

  joined_within : (one : Term) (terms : List Term) (both : Term) → JoinsOne one terms both → IsWithin one both
  joined_within one terms both j = first_within one j.0 both j.2.of_both

  joined_has : (one : Term) (terms : List Term) (both : Term) → JoinsOne one terms both → HasWithin terms both
  joined_has one terms both j = (j.0, j.1, second_within one j.0 both j.2.of_both)

  some_good : (d : ℕ) → d < length all → (strongs : List ℕ) (v : Valuation shapes) (i : ℕ) → IsTrue (v.truth d i) → HasGood strongs v i (terms_at all d)
  some_good d low strongs v i true_now = (are.each d low).good (are.room d low) strongs v i true_now

  -- what is joined of a term of a demand is one way to meet it
  same_of_one : (one : Term) (d : ℕ) → d < length all → (both : Term) → JoinsOne one (terms_at all d) both → IsBeside shapes one (Same d) both
  same_of_one one d low both j =
      let found = (are.each d low).ways j.0 j.1 in
      beside_same one j.0 both d found.side found.taken found.besides j.2

  pub same_added : (d : ℕ) (new : List Term) → d < length all → AddsJoins with (terms_at all d) old new → AddsCombination shapes with (Same d) old new
  same_added d new low a = record {
    keeps = a.keeps;
    only = λ t h. elim (a.only t h) [ inl there ↦ inl there | inr j ↦ inr (joined_within with (terms_at all d) t j, covered d low t (joined_has with (terms_at all d) t j)) ];
    ways = λ t h. elim (a.only t h) [ inl there ↦ inl there | inr j ↦ inr (same_of_one with d low t j) ];
    good = λ room strongs v i one says. a.good room shapes strongs v i one (some_good d low strongs v i says);
  }

  pub both_added : (d e : ℕ) (new : List Term) → d < length all → e < length all → AddsPairs with (terms_at all d) (terms_at all e) old new
      → AddsCombination shapes with (Both d e) old new
  both_added d e new low under a = record {
    keeps = a.keeps;
    only = λ t h. elim (a.only t h) [
      | inl there ↦ inl there
      | inr j ↦ (let first = joined_within with (terms_at all d) j.0 j.1 in
          let second = joined_within j.0 (terms_at all e) t j.2 in
          let has = joined_has with (terms_at all d) j.0 j.1 in
          inr (
            within_more with j.0 t first second,
            (covered d low t (has.0, has.1, within_more has.0 j.0 t has.2 second), covered e under t (joined_has j.0 (terms_at all e) t j.2)),
          ))
    ];
    ways = λ t h. elim (a.only t h) [
      | inl there ↦ inl there
      | inr j ↦ inr (beside_both with j.0 t d e (same_of_one with d low j.0 j.1) (same_of_one j.0 e under t j.2))
    ];
    good = λ room strongs v i one says. a.good room shapes strongs v i one (some_good d low strongs v i says.0) (some_good e under strongs v i says.1);
  }

  pub either_added : (d e : ℕ) (mid new : List Term) → AddsCombination shapes with (Same d) old mid → AddsCombination shapes with (Same e) mid new
      → AddsCombination shapes with (Either d e) old new
  either_added d e mid new a b = record {
    keeps = keeps_more old mid new a.keeps b.keeps;
    only = λ t h. elim (b.only t h) [
      | inl between ↦ elim (a.only t between) [ inl there ↦ inl there | inr added ↦ inr (added.0, inl added.1) ]
      | inr added ↦ inr (added.0, inr added.1)
    ];
    ways = λ t h. elim (b.ways t h) [
      | inl between ↦ elim (a.ways t between) [ inl there ↦ inl there | inr added ↦ inr (beside_left with t d e added) ]
      | inr added ↦ inr (beside_right with t d e added)
    ];
    good = λ room strongs v i one says. elim says [
      | inl x ↦ has_good_kept strongs v i mid new room b.keeps (a.good (b.keeps.roomy room) strongs v i one x)
      | inr y ↦ b.good room strongs v i one y
    ];
  }

  pub cases_added : (c d e f : ℕ) (mid new : List Term) → AddsCombination shapes with (Both c d) old mid → AddsCombination shapes with (Both e f) mid new
      → AddsCombination shapes with (Cases c d e f) old new
  cases_added c d e f mid new a b = record {
    keeps = keeps_more old mid new a.keeps b.keeps;
    only = λ t h. elim (b.only t h) [
      | inl between ↦ elim (a.only t between) [ inl there ↦ inl there | inr added ↦ inr (added.0, inl added.1) ]
      | inr added ↦ inr (added.0, inr added.1)
    ];
    ways = λ t h. elim (b.ways t h) [
      | inl between ↦ elim (a.ways t between) [ inl there ↦ inl there | inr added ↦ inr (beside_first with t c d e f added) ]
      | inr added ↦ inr (beside_second with t c d e f added)
    ];
    good = λ room strongs v i one says. elim says [
      | inl x ↦ has_good_kept strongs v i mid new room b.keeps (a.good (b.keeps.roomy room) strongs v i one x)
      | inr y ↦ b.good room strongs v i one y
    ];
  }
