-- Terms of demands, and what is added by putting them together.
use Rattle.std.specs.Prelude.{◌<◌, ℕ, IsTrue, List, [], length, slice_index_or, Contains}
use Rattle.omega_ltl_shapes.specs.Covers.{Covers, CoversCombination}
use Rattle.omega_ltl_shapes.specs.Demands.{IsTrueAt, SaysAt, Valuation}
use Rattle.omega_ltl_shapes.specs.Graphs.{IsGood}
use Rattle.omega_ltl_shapes.specs.Shapes.{AreGrounded}
use Rattle.omega_ltl_shapes.specs.Terms.{IsWithin}
use Rattle.omega_ltl_shapes.specs.declared.combination.Combination.{Combination}
use Rattle.omega_ltl_shapes.specs.declared.shape.Shape.{Shape}
use Rattle.omega_ltl_shapes.specs.declared.term.Term.{Term}
use Rattle.omega_ltl_terms.specs.Adding.{AddsOnly, AreApart, HasGood, HasRoom, Keeps}
use Rattle.omega_ltl_terms.specs.Ways.{IsBeside, IsJoined, IsWay}

-- the terms of a demand: each is a way to meet it, and covers it, and none is within another. Wherever the demand is
-- true some is good, if the limit is kept
pub record AreTermsOf (shapes : List Shape) (d : ℕ) (terms : List Term) : Type 0 where
  pub ways : (term : Term) → Contains terms term → IsWay shapes d term
  pub apart : AreApart terms
  pub cover : (term : Term) → Contains terms term → Covers shapes term.cube term.next d
  pub good : HasRoom terms → (strongs : List ℕ) (v : Valuation shapes) (i : ℕ) → IsTrue (v.truth d i)
      → HasGood strongs v i terms

-- the terms of this number; none beyond
abbrev pub terms_at : List (List Term) → ℕ → List Term
terms_at all d = slice_index_or all d []

-- the terms of the first demands within the limit, of which each speaks of smaller ones
pub record AreTerms (shapes : List Shape) (all : List (List Term)) : Type 0 where
  pub grounded : AreGrounded shapes
  pub each : (d : ℕ) → d < length all → AreTermsOf shapes d (terms_at all d)
  pub room : (d : ℕ) → d < length all → HasRoom (terms_at all d)

-- a term is joined of one term and one of a list
abbrev pub JoinsOne : Term → List Term → Term → Type 0
JoinsOne with terms both = (way : Term) × Contains terms way × IsJoined with way both

-- a term is joined of one term and one of each of two lists
abbrev pub JoinsPair : Term → List Term → List Term → Term → Type 0
JoinsPair with firsts seconds both =
    (middle : Term) × JoinsOne with firsts middle × JoinsOne middle seconds both

-- terms are added that are joined of one term and one of a list; wherever those are good, so is one
pub record AddsJoins (with : Term) (terms old new : List Term) : Type 0 where
  pub keeps : Keeps old new
  pub only : AddsOnly (JoinsOne with terms) old new
  pub good : HasRoom new → (shapes : List Shape) (strongs : List ℕ) (v : Valuation shapes) (i : ℕ)
      → IsGood strongs v i with → HasGood strongs v i terms → HasGood strongs v i new

-- the same together with one of each of two lists
pub record AddsPairs (with : Term) (firsts seconds old new : List Term) : Type 0 where
  pub keeps : Keeps old new
  pub only : AddsOnly (JoinsPair with firsts seconds) old new
  pub good : HasRoom new → (shapes : List Shape) (strongs : List ℕ) (v : Valuation shapes) (i : ℕ)
      → IsGood strongs v i with → HasGood strongs v i firsts → HasGood strongs v i seconds
      → HasGood strongs v i new

-- terms are added that fix what one term fixes and beside it one way to meet a combination, and cover that; wherever
-- that term is good and the combination holds, one is good
pub record AddsCombination (shapes : List Shape) (with : Term) (c : Combination) (old new : List Term)
    : Type 0 where
  pub keeps : Keeps old new
  pub only : AddsOnly (λ added. IsWithin with added × CoversCombination shapes added.cube added.next c)
      old new
  pub ways : AddsOnly (IsBeside shapes with c) old new
  pub good : HasRoom new → (strongs : List ℕ) (v : Valuation shapes) (i : ℕ) → IsGood strongs v i with
      → SaysAt v.held (IsTrueAt v.truth) i c → HasGood strongs v i new
