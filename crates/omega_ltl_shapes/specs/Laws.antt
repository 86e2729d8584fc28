-- Laws of demands, and of the runs that meet them.
use Rattle.std.specs.Prelude.{◌≡◌, ◌↔◌, ◌<◌, ◌≤◌, ◌*◌, ℕ, false, IsTrue, List, length}
use Rattle.omega_text.specs.NamedWords.{NamedWord}
use Rattle.omega_text.specs.Omniscience.{LimitedPrincipleOfOmniscience}
use Rattle.omega_ltl_formula.specs.Table.{FormulaTable, IsFormula, IsTable, NumberedFormula}
use Rattle.omega_ltl_shapes.specs.Covers.{Covers, is_set}
use Rattle.omega_ltl_shapes.specs.Demands.{IsMet, ShowingMeets, Valuation, seen_of}
use Rattle.omega_ltl_shapes.specs.Graphs.{IsGood, IsTrace, Trace}
use Rattle.omega_ltl_shapes.specs.Shapes.{AreShapesOf}
use Rattle.omega_ltl_shapes.specs.declared.shape.Shape.{Shape}
use Rattle.omega_ltl_shapes.specs.declared.term.Term.{Term}

-- a demand is met if what its shape says is shown by demands that are met
abbrev pub DemandsAreShown : Type 0
DemandsAreShown = (table : FormulaTable) (word : NamedWord) (d i : ℕ) → IsTable table
    → d < 2 * length table.nodes → ShowingMeets table word d i

-- truth values of the demands of a formula: those of what is met
pub record AreTruthsOf (table : FormulaTable) (word : NamedWord) (shapes : List Shape)
    (v : Valuation shapes) : Type 0 where
  pub held : v.held ≡ seen_of table.names word
  pub truth : (d i : ℕ) → d < length shapes → IsMet table word d i ↔ IsTrue (v.truth d i)

-- by the limited principle of omniscience the demands of a formula have truth values, and unfold by their shapes
abbrev pub TruthsFollowShapes : Type 0
TruthsFollowShapes = LimitedPrincipleOfOmniscience
    → (formula : NumberedFormula) (word : NamedWord) (shapes : List Shape)
    → IsFormula formula → AreShapesOf formula.table.nodes shapes
    → (v : Valuation shapes) × AreTruthsOf formula.table word shapes v

-- what a trace over a word covers is met
abbrev pub TracesAreSound : Type 0
TracesAreSound =
    (formula : NumberedFormula) (word : NamedWord) (shapes : List Shape) (strongs : List ℕ) (t : Trace)
    → IsFormula formula → AreShapesOf formula.table.nodes shapes
    → IsTrace shapes strongs (seen_of formula.table.names word) t
    → (d i : ℕ) → Covers shapes (t.cubes i) (t.nexts i) d → IsMet formula.table word d i

-- along good terms no set is late for ever
abbrev pub GoodTermsAccept : Type 0
GoodTermsAccept = (shapes : List Shape) (strongs : List ℕ) (v : Valuation shapes) (terms : ℕ → Term)
    → ((i : ℕ) → IsGood strongs v i (terms i)) → (set i : ℕ)
    → (j : ℕ) × (i ≤ j) × (is_set (terms j).late set ≡ false)
