-- The terms of each shape are those of its demand.
use Rattle.std.proofs.Common.{◌≡◌, inl, inr, ◌<◌, ◌+◌, ℕ, Bool, true, false, List, [], ◌∷◌, ◌++◌, length}
use Rattle.std.proofs.Common.{refl, sym, subst, ◌∙◌, arith}
use Rattle.std.specs.Prelude.{Contains, IsTrue}
use Rattle.std.proofs.lemmas.Bool.{cases_lt, false≢true}
use Rattle.std.proofs.lemmas.List.{get_or_append_left, get_or_at, length_push}
use Rattle.std.proofs.lemmas.List.Elements.{Contains-push_cases}
use Rattle.omega_ltl_shapes.specs.Covers.{Covers, HasLiteral, Step, is_set}
use Rattle.omega_ltl_shapes.specs.Demands.{IsTrueAt, Unfolds, Valuation}
use Rattle.omega_ltl_shapes.specs.Graphs.{IsGood}
use Rattle.omega_ltl_shapes.specs.Shapes.{AreGrounded, shape_at}
use Rattle.omega_ltl_shapes.specs.Terms.{no_literals}
use Rattle.omega_ltl_shapes.specs.declared.combination.Combination.{Combination}
use Rattle.omega_ltl_shapes.specs.declared.combination.Combination.TheVariants.{Constant}
use Rattle.omega_ltl_shapes.specs.declared.cube.Cube.{Cube}
use Rattle.omega_ltl_shapes.specs.declared.shape.Shape.{Shape}
use Rattle.omega_ltl_shapes.specs.declared.shape.Shape.TheVariants.{Fix, Next, Now}
use Rattle.omega_ltl_shapes.specs.declared.term.Term.{Term}
use Rattle.omega_ltl_shapes.proofs.BitLemmas.{none_in_zero}
use Rattle.omega_ltl_shapes.proofs.Covering.{folds}
use Rattle.omega_ltl_terms.specs.Adding.{AddsMinimal, AreApart, HasRoom}
use Rattle.omega_ltl_terms.specs.Products.{AddsCombination, AreTerms, AreTermsOf, terms_at}
use Rattle.omega_ltl_terms.specs.Ways.{IsBeside, IsWay, beside_constant, next_term, nothing, sides}
use Rattle.omega_ltl_terms.proofs.Adding.{has_good_kept}
use Rattle.omega_ltl_terms.proofs.Within.{has_good_within}

no_literal : (name : ℕ) (negated : Bool) → HasLiteral no_literals name negated → ⊥
no_literal name false h = false≢true (sym (none_in_zero name) ∙ h)
no_literal name true h = false≢true (sym (none_in_zero name) ∙ h)

-- a term without literals and sets is good where its demands on the next index are true
pub good_of_next : {shapes : List Shape} (strongs : List ℕ) (v : Valuation shapes) (i : ℕ) (term : Term) → term.cube ≡ no_literals → term.late ≡ 0
    → ((d : ℕ) → Contains term.next d → IsTrue (v.truth d (i + 1))) → IsGood strongs v i term
good_of_next strongs v i term cube late next = record {
  literals = λ n s h. absurd (no_literal n s (subst (λ (c : Cube). HasLiteral c n s) cube h));
  next = next;
  strong = λ set h. absurd (no_bit set h);
  late = λ set h. absurd (no_bit set h);
  no_goal = λ set h. absurd (no_bit set h);
}
  where
    no_bit : (set : ℕ) → IsTrue (is_set term.late set) → ⊥
    no_bit set h = false≢true (sym (none_in_zero set) ∙ subst (λ (w : ℕ). IsTrue (is_set w set)) late h)

no_item : (d : ℕ) → Contains [] d → ⊥
no_item d h = omega (arith, h.1)

apart_none : AreApart []
apart_none i j d less low = absurd (omega (arith, low))

-- a term without literals, demands and sets
pub is_nothing : (empty : Term) → empty.cube ≡ no_literals → empty.next ≡ [] → empty.late ≡ 0 → empty ≡ nothing
is_nothing empty cube next late k = record { cube = cube k; next = next k; late = late k }

no_term : (t : Term) → Contains [] t → ⊥
no_term t h = omega (arith, h.1)

pub good_empty : {shapes : List Shape} (strongs : List ℕ) (v : Valuation shapes) (i : ℕ) (empty : Term) → empty.cube ≡ no_literals → empty.next ≡ [] → empty.late ≡ 0 → IsGood strongs v i empty
good_empty strongs v i empty cube next late = good_of_next strongs v i empty cube late (λ d h. absurd (no_item d (subst (λ (l : List ℕ). Contains l d) next h)))

only_item : (d e : ℕ) → Contains (d ∷ []) e → d ≡ e
only_item d e h = elim (Contains-push_cases [] d e h) [ inl none ↦ absurd (no_item e none) | inr same ↦ same ]

module _ (shapes : List Shape) (grounded : AreGrounded shapes) (d : ℕ) where
  covers_shape : (shape : Shape) → shape_at shapes d ≡ shape → (cube : Cube) (next : List ℕ) → Step cube next (Covers shapes cube next) d shape → Covers shapes cube next d
  covers_shape shape is cube next s = folds shapes grounded cube next d (subst (Step cube next (Covers shapes cube next) d) (sym is) s)

  unfolds_shape : (shape : Shape) → shape_at shapes d ≡ shape → (v : Valuation shapes) (i : ℕ) → IsTrue (v.truth d i) → Unfolds v.held (IsTrueAt v.truth) d i shape
  unfolds_shape shape is v i h = subst (Unfolds v.held (IsTrueAt v.truth) d i) is (v.unfolds d i h)

  pub terms_now : (c : Combination) (empty : Term) (new : List Term) → shape_at shapes d ≡ Now c → empty.cube ≡ no_literals → empty.next ≡ [] → empty.late ≡ 0
      → AddsCombination shapes empty c [] new → AreTermsOf shapes d new
  terms_now c empty new is cube next late a = record {
    ways = λ t h. elim (a.ways t h) [
      | inl none ↦ absurd (no_term t none)
      | inr added ↦ record {
        side = (nothing, c);
        taken = subst (λ (s : Shape). Contains (sides d s) (nothing, c)) (sym is) (0, omega arith, refl);
        besides = subst (λ (t' : Term). IsBeside shapes t' c t) (is_nothing empty cube next late) added;
      }
    ];
    apart = a.keeps.apart apart_none;
    cover = λ t h. elim (a.only t h) [
      | inl none ↦ absurd (no_term t none)
      | inr added ↦ covers_shape (Now c) is t.cube t.next added.1
    ];
    good = λ room strongs v i true_now. a.good room strongs v i (good_empty strongs v i empty cube next late) (unfolds_shape (Now c) is v i true_now);
  }

  pub terms_next : (e : ℕ) (new : List Term) → shape_at shapes d ≡ Next e → AddsMinimal (next_term e) [] new → AreTermsOf shapes d new
  terms_next e new is a = record {
    ways = λ t h. elim (a.only t h) [
      | inl none ↦ absurd (no_term t none)
      | inr same ↦ subst (IsWay shapes d) (sym same) (record {
        side = (next_term e, Constant true);
        taken = subst (λ (s : Shape). Contains (sides d s) (next_term e, Constant true)) (sym is) (0, omega arith, refl);
        besides = beside_constant (next_term e);
      })
    ];
    apart = a.keeps.apart apart_none;
    cover = λ t h. elim (a.only t h) [
      | inl none ↦ absurd (no_term t none)
      | inr same ↦ covers_shape (Next e) is t.cube t.next (subst (λ (u : Term). Contains u.next e) (sym same) (0, omega arith, refl))
    ];
    good = λ room strongs v i true_now. has_good_within strongs v i new (next_term e) (a.added room)
        (good_of_next strongs v i (next_term e) refl refl (λ x h. subst (λ (n : ℕ). IsTrue (v.truth n (i + 1))) (only_item e x h) (unfolds_shape (Next e) is v i true_now)));
  }

  pub terms_fix : (goal keep : Combination) (strong : Bool) (empty : Term) (mid new : List Term) → shape_at shapes d ≡ Fix goal keep strong
      → empty.cube ≡ no_literals → empty.next ≡ [] → empty.late ≡ 0
      → AddsCombination shapes empty goal [] mid → AddsCombination shapes (next_term d) keep mid new → AreTermsOf shapes d new
  terms_fix goal keep strong empty mid new is cube next late a b = record {
    ways = λ t h. elim (b.ways t h) [
      | inl between ↦ elim (a.ways t between) [
        | inl none ↦ absurd (no_term t none)
        | inr added ↦ record {
          side = (nothing, goal);
          taken = subst (λ (s : Shape). Contains (sides d s) (nothing, goal)) (sym is) (0, omega arith, refl);
          besides = subst (λ (t' : Term). IsBeside shapes t' goal t) (is_nothing empty cube next late) added;
        }
      ]
      | inr added ↦ record {
        side = (next_term d, keep);
        taken = subst (λ (s : Shape). Contains (sides d s) (next_term d, keep)) (sym is) (1, omega arith, refl);
        besides = added;
      }
    ];
    apart = b.keeps.apart (a.keeps.apart apart_none);
    cover = λ t h. elim (b.only t h) [
      | inl between ↦ elim (a.only t between) [
        | inl none ↦ absurd (no_term t none)
        | inr added ↦ covers_shape (Fix goal keep strong) is t.cube t.next (inl added.1)
      ]
      | inr added ↦ covers_shape (Fix goal keep strong) is t.cube t.next (inr (added.1, added.0.next d (0, omega arith, refl)))
    ];
    good = λ room strongs v i true_now. elim (unfolds_shape (Fix goal keep strong) is v i true_now).0 [
      | inl says ↦ has_good_kept strongs v i mid new room b.keeps (a.good (b.keeps.roomy room) strongs v i (good_empty strongs v i empty cube next late) says)
      | inr kept ↦ b.good room strongs v i
          (good_of_next strongs v i (next_term d) refl refl (λ x h. subst (λ (n : ℕ). IsTrue (v.truth n (i + 1))) (only_item d x h) kept.1)) kept.0
    ];
  }

-- the terms of one demand more
pub all_more : (shapes : List Shape) (all : List (List Term)) (terms : List Term) → AreTerms shapes all → AreTermsOf shapes (length all) terms → HasRoom terms
    → AreTerms shapes (all ++ terms ∷ [])
all_more shapes all terms are here within = record { grounded = are.grounded; each = each; room = room }
  where
    room : (d : ℕ) → d < length (all ++ terms ∷ []) → HasRoom (terms_at (all ++ terms ∷ []) d)
    room d low = elim (cases_lt d (length all)) [
      | inl before ↦ subst HasRoom (sym (get_or_append_left all (terms ∷ []) [] d before)) (are.room d before)
      | inr reached ↦ (let same : length all ≡ d = omega (arith, length_push all terms) in
          subst (λ (n : ℕ). HasRoom (terms_at (all ++ terms ∷ []) n)) same (subst HasRoom (sym (get_or_at all terms [] [] (length all) refl)) within))
    ]

    each : (d : ℕ) → d < length (all ++ terms ∷ []) → AreTermsOf shapes d (terms_at (all ++ terms ∷ []) d)
    each d low = elim (cases_lt d (length all)) [
      | inl before ↦ subst (AreTermsOf shapes d) (sym (get_or_append_left all (terms ∷ []) [] d before)) (are.each d before)
      | inr reached ↦ (let same : length all ≡ d = omega (arith, length_push all terms) in
          subst (λ (n : ℕ). AreTermsOf shapes n (terms_at (all ++ terms ∷ []) n)) same (subst (AreTermsOf shapes (length all)) (sym (get_or_at all terms [] [] (length all) refl)) here))
    ]
