-- The tables of a formula: the shapes of its demands, their terms, and the strong demands that have sets.
use Rattle.std.specs.Prelude.{◌≡◌, ◌↔◌, ◌<◌, ◌≤◌, ◌*◌, ℕ, Bool, false, IsTrue, List, length, slice_index}
use Rattle.std.specs.Prelude.{slice_index_or}
use Rattle.omega_ltl_formula.specs.Limits.{most_formula_nodes}
use Rattle.omega_ltl_formula.specs.declared.node.FormulaNode.{FormulaNode}
use Rattle.omega_ltl_shapes.specs.Covers.{Covers}
use Rattle.omega_ltl_shapes.specs.Graphs.{IsStrong}
use Rattle.omega_ltl_shapes.specs.Shapes.{AreShapesOf}
use Rattle.omega_ltl_shapes.specs.declared.cube.Cube.{Cube}
use Rattle.omega_ltl_shapes.specs.declared.shape.Shape.{Shape}
use Rattle.omega_ltl_terms.specs.Limits.{most_sets}
use Rattle.omega_ltl_terms.specs.Meeting.{HasManyWays}
use Rattle.omega_ltl_terms.specs.Products.{AreTerms}
use Rattle.omega_ltl_terms.specs.declared.tables.Tables.{Tables}

-- the demands of sets: strong ones, each once
pub record AreStrongs (shapes : List Shape) (strongs : List ℕ) : Type 0 where
  pub few : length strongs ≤ most_sets
  pub below : (set : ℕ) → set < length strongs → slice_index strongs set < length shapes
  pub strong : (set : ℕ) → set < length strongs → IsStrong shapes (slice_index strongs set)
  pub once : (one other : ℕ) → one < length strongs → other < length strongs
      → slice_index strongs one ≡ slice_index strongs other → one ≡ other

-- tables whose parts fit
pub record AreTables (tables : Tables) : Type 0 where
  pub few : length tables.shapes ≤ 2 * most_formula_nodes
  pub counted : length tables.terms ≡ length tables.shapes
  pub terms : AreTerms tables.shapes tables.terms
  pub strongs : AreStrongs tables.shapes tables.strongs

-- a demand of a formula with these nodes has over the limit of ways to meet it
pub record HasLargeDemand (nodes : List FormulaNode) : Type 0 where
  pub shapes : List Shape
  pub are : AreShapesOf nodes shapes
  pub demand : ℕ
  pub low : demand < length shapes
  pub many : HasManyWays shapes demand

-- the values of the first demands: whether they are covered
pub record AreCovered (shapes : List Shape) (cube : Cube) (next : List ℕ) (count : ℕ)
    (covered : List Bool) : Type 0 where
  pub long : length covered ≡ count
  pub values : (d : ℕ) → d < count → IsTrue (slice_index_or covered d false) ↔ Covers shapes cube next d
