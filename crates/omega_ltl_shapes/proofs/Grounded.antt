-- Shapes of a formula speak of smaller demands.
use Rattle.std.proofs.Common.{◌≡◌, inl, inr, ◌<◌, ◌≤◌, ◌*◌, ◌/◌, ℕ, Bool, true, false, not, List, length, sym, subst, arith}
use Rattle.std.proofs.lemmas.Bool.{cases_lt}
use Rattle.std.proofs.lemmas.List.{get_or_past}
use Rattle.omega_ltl_formula.specs.Table.{FormulaTable, IsPlaced, IsTable, node_at}
use Rattle.omega_ltl_formula.specs.declared.node.FormulaNode.{FormulaNode}
use Rattle.omega_ltl_formula.specs.declared.node.FormulaNode.TheVariants as node
use Rattle.omega_ltl_formula.specs.declared.operators.BinaryOperator.{BinaryOperator}
use Rattle.omega_ltl_formula.specs.declared.operators.BinaryOperator.TheVariants.{And, Iff, Implies, Or, Release, StrongRelease, Until, WeakUntil, Xor}
use Rattle.omega_ltl_formula.specs.declared.operators.UnaryOperator.{UnaryOperator}
use Rattle.omega_ltl_formula.specs.declared.operators.UnaryOperator.TheVariants as unary
use Rattle.omega_ltl_shapes.specs.Shapes.{AreGrounded, AreShapesOf, IsShapeBelow, binary_shape, constant_shape, is_negated, node_shape, shape_at, unary_shape}
use Rattle.omega_ltl_shapes.specs.declared.combination.Combination.TheVariants.{Constant}
use Rattle.omega_ltl_shapes.specs.declared.shape.Shape.{Shape}
use Rattle.omega_ltl_shapes.specs.declared.shape.Shape.TheVariants.{Now}
use Rattle.omega_ltl_shapes.proofs.Numbering.{demand_below}

module _ (d : ℕ) where
  unary_below : (op : UnaryOperator) (a : ℕ) (negated : Bool) → a < d / 2 → IsShapeBelow d (unary_shape op a negated)
  unary_below unary.Not a negated p = demand_below a d (not negated) p
  unary_below unary.Next a negated p = demand_below a d negated p
  unary_below unary.Finally a false p = (demand_below a d false p, tt)
  unary_below unary.Finally a true p = (tt, demand_below a d true p)
  unary_below unary.Globally a false p = (tt, demand_below a d false p)
  unary_below unary.Globally a true p = (demand_below a d true p, tt)

  binary_below : (op : BinaryOperator) (a b : ℕ) (negated : Bool) → a < d / 2 → b < d / 2 → IsShapeBelow d (binary_shape op a b negated)
  binary_below And a b false p q = (demand_below a d false p, demand_below b d false q)
  binary_below And a b true p q = (demand_below a d true p, demand_below b d true q)
  binary_below Or a b false p q = (demand_below a d false p, demand_below b d false q)
  binary_below Or a b true p q = (demand_below a d true p, demand_below b d true q)
  binary_below Implies a b false p q = (demand_below a d true p, demand_below b d false q)
  binary_below Implies a b true p q = (demand_below a d false p, demand_below b d true q)
  binary_below Iff a b false p q = (demand_below a d false p, demand_below b d false q, demand_below a d true p, demand_below b d true q)
  binary_below Iff a b true p q = (demand_below a d false p, demand_below b d true q, demand_below a d true p, demand_below b d false q)
  binary_below Xor a b false p q = (demand_below a d false p, demand_below b d true q, demand_below a d true p, demand_below b d false q)
  binary_below Xor a b true p q = (demand_below a d false p, demand_below b d false q, demand_below a d true p, demand_below b d true q)
  binary_below Until a b false p q = (demand_below b d false q, demand_below a d false p)
  binary_below Until a b true p q = ((demand_below a d true p, demand_below b d true q), demand_below b d true q)
  binary_below WeakUntil a b false p q = (demand_below b d false q, demand_below a d false p)
  binary_below WeakUntil a b true p q = ((demand_below a d true p, demand_below b d true q), demand_below b d true q)
  binary_below Release a b false p q = ((demand_below a d false p, demand_below b d false q), demand_below b d false q)
  binary_below Release a b true p q = (demand_below b d true q, demand_below a d true p)
  binary_below StrongRelease a b false p q = ((demand_below a d false p, demand_below b d false q), demand_below b d false q)
  binary_below StrongRelease a b true p q = (demand_below b d true q, demand_below a d true p)

  constant_below : (value negated : Bool) → IsShapeBelow d (constant_shape value negated)
  constant_below value false = tt
  constant_below value true = tt

  pub node_below : (names : ℕ) → names ≤ 64 → (n : FormulaNode) (negated : Bool) → IsPlaced names (d / 2) n → IsShapeBelow d (node_shape n negated)
  node_below names few (node.Constant value) negated p = constant_below value negated
  node_below names few (node.Name name) negated p = omega arith
  node_below names few (node.Unary op a) negated p = unary_below op a negated p
  node_below names few (node.Binary op a b) negated p = binary_below op a b negated p.0 p.1

-- beyond a table there is false
pub shape_beyond : (shapes : List Shape) (d : ℕ) → length shapes ≤ d → shape_at shapes d ≡ Now (Constant false)
shape_beyond shapes d beyond = get_or_past shapes d (Now (Constant false)) beyond

pub shapes_below : (table : FormulaTable) (shapes : List Shape) → IsTable table → length table.names ≤ 64 → AreShapesOf table.nodes shapes → AreGrounded shapes
shapes_below table shapes is few are d = elim (cases_lt d (length shapes)) [
  | inl low ↦ subst (IsShapeBelow d) (sym (are.each d low))
      (node_below d (length table.names) few (node_at table.nodes (d / 2)) (is_negated d)
      (is.placed (d / 2) (let e : length shapes ≡ 2 * length table.nodes = are.count in omega arith)))
  | inr high ↦ subst (IsShapeBelow d) (sym (shape_beyond shapes d high)) tt
]
