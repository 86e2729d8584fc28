-- Cubes that contradict each other, and those that have a letter.
use Rattle.std.proofs.Common.{◌≡◌, inl, inr, ℕ, Bool, true, false, not, List, [], ◌∷◌, refl, sym, subst, arith}
use Rattle.std.specs.Prelude.{Contains}
use Rattle.std.proofs.lemmas.Bool.{both_ways, false≢true}
use Rattle.std.proofs.lemmas.List.Elements.{Contains-push_cases}
use Rattle.omega_ltl_shapes.specs.Covers.{HasLiteral, is_set}
use Rattle.omega_ltl_shapes.specs.Shapes.{shape_at}
use Rattle.omega_ltl_shapes.specs.Terms.{AreContradictory, HasLiterals, IsCubeWith, no_literals}
use Rattle.omega_ltl_shapes.specs.declared.combination.Combination.{Combination}
use Rattle.omega_ltl_shapes.specs.declared.combination.Combination.TheVariants.{Both, Constant, Same}
use Rattle.omega_ltl_shapes.specs.declared.cube.Cube.{Cube}
use Rattle.omega_ltl_shapes.specs.declared.shape.Shape.{Shape}
use Rattle.omega_ltl_shapes.specs.declared.shape.Shape.TheVariants.{Fix, Next, Now}
use Rattle.omega_ltl_shapes.specs.declared.term.Term.{Term}
use Rattle.omega_ltl_shapes.proofs.BitLemmas.{none_in_zero}
use Rattle.omega_ltl_terms.specs.Meeting.{AreMet, IsMetBeside, met_goal, met_stays, met_waits, met_weak, none_met, one_more_met}
use Rattle.omega_ltl_terms.specs.Pieces.{IsPossible}
use Rattle.omega_ltl_terms.specs.Ways.{IsBeside, IsJoined, IsLiteralTerm, beside_both, beside_constant, beside_first, beside_left, beside_literal, beside_right, beside_same, beside_second, next_term, nothing, sides}

-- a literal of one cube against one of another
pub clash : (one other : Cube) (name : ℕ) (negated : Bool) → HasLiteral one name negated → HasLiteral other name (not negated) → AreContradictory one other
clash one other name false a b = (name, inl (a, b))
clash one other name true a b = (name, inr (a, b))

record Clash (one other : Cube) : Type 0 where
  pub name : ℕ
  pub negated : Bool
  pub of_one : HasLiteral one name negated
  pub of_other : HasLiteral other name (not negated)

clashing : (one other : Cube) → AreContradictory one other → Clash one other
clashing one other h = elim h.1 [
  | inl positive ↦ record { name = h.0; negated = false; of_one = positive.0; of_other = positive.1 }
  | inr negative ↦ record { name = h.0; negated = true; of_one = negative.0; of_other = negative.1 }
]

-- cubes with more literals contradict each other too
pub contradict_more : (one other most more : Cube) → HasLiterals one most → HasLiterals other more → AreContradictory one other → AreContradictory most more
contradict_more one other most more a b h =
    let c = clashing one other h in
    clash most more c.name c.negated (a c.name c.negated c.of_one) (b c.name (not c.negated) c.of_other)

pub contradict_back : (one other : Cube) → AreContradictory one other → AreContradictory other one
contradict_back one other h = elim h.1 [
  | inl positive ↦ (h.0, inr (positive.1, positive.0))
  | inr negative ↦ (h.0, inl (negative.1, negative.0))
]

-- a cube with one literal more, that its own literals and those of another do not contradict
unlike : (negated : Bool) → not negated ≡ negated → ⊥
unlike false e = false≢true (sym e)
unlike true e = false≢true e

same_sign : (one other : Bool) → not one ≡ other → one ≡ not other
same_sign false true e = refl
same_sign true false e = refl
same_sign false false e = absurd (false≢true (sym e))
same_sign true true e = absurd (false≢true e)

pub with_agrees : (cube more other : Cube) (name : ℕ) (negated : Bool) → IsCubeWith cube name negated more → (HasLiteral other name (not negated) → ⊥)
    → (AreContradictory cube other → ⊥) → AreContradictory more other → ⊥
with_agrees cube more other name negated is free agree h =
    let c = clashing more other h in
    elim ((is c.name c.negated).0 c.of_one) [
      | inl old ↦ agree (clash cube other c.name c.negated old c.of_other)
      | inr new ↦ free (subst (λ (n : ℕ). HasLiteral other n (not negated)) new.0 (subst (λ (s : Bool). HasLiteral other c.name (not s)) new.1 c.of_other))
    ]

pub with_possible : (cube more : Cube) (name : ℕ) (negated : Bool) → IsCubeWith cube name negated more → (HasLiteral cube name (not negated) → ⊥) → IsPossible cube → IsPossible more
with_possible cube more name negated is free possible h =
    let c = clashing more more h in
    elim ((is c.name c.negated).0 c.of_one) [
      | inl old ↦ elim ((is c.name (not c.negated)).0 c.of_other) [
        | inl other ↦ possible (clash cube cube c.name c.negated old other)
        | inr new ↦ free (subst (λ (n : ℕ). HasLiteral cube n (not negated)) new.0 (subst (HasLiteral cube c.name) (same_sign c.negated negated new.1) old))
      ]
      | inr new ↦ elim ((is c.name (not c.negated)).0 c.of_other) [
        | inl other ↦ free (subst (λ (n : ℕ). HasLiteral cube n (not negated)) new.0 (subst (λ (s : Bool). HasLiteral cube c.name (not s)) new.1 other))
        | inr same ↦ unlike negated (subst (λ (s : Bool). not s ≡ negated) new.1 same.1)
      ]
    ]

-- terms that are joined without contradiction
joined_possible : (one other both : Term) → IsJoined one other both → IsPossible one.cube → IsPossible other.cube → IsPossible both.cube
joined_possible one other both is a b h =
    let c = clashing both.cube both.cube h in
    elim ((is.of_both.literals c.name c.negated).0 c.of_one) [
      | inl first ↦ elim ((is.of_both.literals c.name (not c.negated)).0 c.of_other) [
        | inl same ↦ a (clash one.cube one.cube c.name c.negated first same)
        | inr apart ↦ is.agree (clash one.cube other.cube c.name c.negated first apart)
      ]
      | inr second ↦ elim ((is.of_both.literals c.name (not c.negated)).0 c.of_other) [
        | inl apart ↦ is.agree (contradict_back other.cube one.cube (clash other.cube one.cube c.name c.negated second apart))
        | inr same ↦ b (clash other.cube other.cube c.name c.negated second same)
      ]
    ]

none_possible : IsPossible no_literals
none_possible h = elim h.1 [
  | inl positive ↦ both_ways (is_set 0 h.0) (none_in_zero h.0) positive.0
  | inr negative ↦ both_ways (is_set 0 h.0) (none_in_zero h.0) negative.0
]

literal_possible : (name : ℕ) (negated : Bool) (term : Term) → IsLiteralTerm name negated term → IsPossible term.cube
literal_possible name negated term is h =
    let c = clashing term.cube term.cube h in
    let one = (is.cube c.name c.negated).0 c.of_one in
    let other = (is.cube c.name (not c.negated)).0 c.of_other in
    unlike negated (subst (λ (s : Bool). not s ≡ negated) one.1 other.1)

side_possible : (d : ℕ) (shape : Shape) (side : Term × Combination) → Contains (sides d shape) side → IsPossible side.0.cube
side_possible d (Now c) side h = elim (Contains-push_cases [] (nothing, c) side h) [
  | inl none ↦ absurd (omega (arith, none.1))
  | inr same ↦ subst (λ (s : Term × Combination). IsPossible s.0.cube) same none_possible
]
side_possible d (Next e) side h = elim (Contains-push_cases [] (next_term e, Constant true) side h) [
  | inl none ↦ absurd (omega (arith, none.1))
  | inr same ↦ subst (λ (s : Term × Combination). IsPossible s.0.cube) same none_possible
]
side_possible d (Fix goal keep strong) side h = elim (Contains-push_cases ((nothing, goal) ∷ []) (next_term d, keep) side h) [
  | inl first ↦ elim (Contains-push_cases [] (nothing, goal) side first) [
    | inl none ↦ absurd (omega (arith, none.1))
    | inr same ↦ subst (λ (s : Term × Combination). IsPossible s.0.cube) same none_possible
  ]
  | inr same ↦ subst (λ (s : Term × Combination). IsPossible s.0.cube) same none_possible
]

module _ (shapes : List Shape) where
  beside_possible : (with : Term) (c : Combination) (both : Term) → IsBeside shapes with c both → IsPossible with.cube → IsPossible both.cube
  beside_possible _ _ _ (beside_constant with) p = p
  beside_possible _ _ _ (beside_literal with one both name negated is joined) p = joined_possible with one both joined p (literal_possible name negated one is)
  beside_possible _ _ _ (beside_same with way both d side taken beside joined) p =
      joined_possible with way both joined p (beside_possible side.0 side.1 way beside (side_possible d (shape_at shapes d) side taken))
  beside_possible _ _ _ (beside_both with middle both d e one other) p = beside_possible middle (Same e) both other (beside_possible with (Same d) middle one p)
  beside_possible _ _ _ (beside_left with both d e one) p = beside_possible with (Same d) both one p
  beside_possible _ _ _ (beside_right with both d e one) p = beside_possible with (Same e) both one p
  beside_possible _ _ _ (beside_first with both c d e f one) p = beside_possible with (Both c d) both one p
  beside_possible _ _ _ (beside_second with both c d e f one) p = beside_possible with (Both e f) both one p

  met_beside_possible : (strongs : List ℕ) (edge : Term) (d : ℕ) (met : Term) → IsMetBeside shapes strongs edge d met → IsPossible edge.cube → IsPossible met.cube
  met_beside_possible strongs edge d met (met_stays meets same) p = subst (λ (t : Term). IsPossible t.cube) (sym same) p
  met_beside_possible strongs edge d met (met_weak weak beside) p = beside_possible edge (Same d) met beside p
  met_beside_possible strongs edge d met (met_goal goal keep is beside) p = beside_possible edge goal met beside p
  met_beside_possible strongs edge d met (met_waits goal keep set waiting is of waits beside) p =
      beside_possible waiting keep met beside (subst IsPossible (sym waits.cube) p)

-- edges that meet demands have letters
pub met_possible : (shapes : List Shape) (strongs demands : List ℕ) (edge : Term) → AreMet shapes strongs demands edge → IsPossible edge.cube
met_possible shapes strongs _ _ none_met = none_possible
met_possible shapes strongs _ _ (one_more_met before d old met are is) = met_beside_possible shapes strongs old d met is (met_possible shapes strongs before old are)
