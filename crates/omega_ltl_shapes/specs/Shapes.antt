-- The shapes of the demands on a node: the demand `2 * node` is that it holds, and `2 * node + 1` that it does not.
use Rattle.std.specs.Prelude.{◌≡◌, ℕ, ◌+◌, ◌*◌, ◌/◌, ◌%◌, ◌<◌, ◌==◌, Bool, true, false, not, List, length}
use Rattle.std.specs.Prelude.{slice_index_or}
use Rattle.omega_ltl_formula.specs.Table.{node_at}
use Rattle.omega_ltl_formula.specs.declared.node.FormulaNode.{FormulaNode}
use Rattle.omega_ltl_formula.specs.declared.node.FormulaNode.TheVariants as node
use Rattle.omega_ltl_formula.specs.declared.operators.BinaryOperator.{BinaryOperator}
use Rattle.omega_ltl_formula.specs.declared.operators.BinaryOperator.TheVariants.{And, Iff, Implies, Or, Release}
use Rattle.omega_ltl_formula.specs.declared.operators.BinaryOperator.TheVariants.{StrongRelease, Until, WeakUntil}
use Rattle.omega_ltl_formula.specs.declared.operators.BinaryOperator.TheVariants.{Xor}
use Rattle.omega_ltl_formula.specs.declared.operators.UnaryOperator.{UnaryOperator}
use Rattle.omega_ltl_formula.specs.declared.operators.UnaryOperator.TheVariants as unary
use Rattle.omega_ltl_shapes.specs.Combinations.{SpeaksBelow}
use Rattle.omega_ltl_shapes.specs.declared.combination.Combination.{Combination}
use Rattle.omega_ltl_shapes.specs.declared.combination.Combination.TheVariants.{Both, Cases, Constant}
use Rattle.omega_ltl_shapes.specs.declared.combination.Combination.TheVariants.{Either, Literal, Same}
use Rattle.omega_ltl_shapes.specs.declared.shape.Shape.{Shape}
use Rattle.omega_ltl_shapes.specs.declared.shape.Shape.TheVariants.{Fix, Next, Now}

-- the demand that a node holds, or, if `negated`, that it does not
abbrev pub demand : ℕ → Bool → ℕ
demand number false = 2 * number
demand number true = 2 * number + 1

-- whether it is a demand that a node does not hold
abbrev pub is_negated : ℕ → Bool
is_negated d = d % 2 == 1

-- an operator with one operand
abbrev pub unary_shape : UnaryOperator → ℕ → Bool → Shape
unary_shape unary.Not a negated = Now (Same (demand a (not negated)))
unary_shape unary.Next a negated = Next (demand a negated)
unary_shape unary.Finally a false = Fix (Same (demand a false)) (Constant true) true
unary_shape unary.Finally a true = Fix (Constant false) (Same (demand a true)) false
unary_shape unary.Globally a false = Fix (Constant false) (Same (demand a false)) false
unary_shape unary.Globally a true = Fix (Same (demand a true)) (Constant true) true

-- an operator with two operands: of one index, or of all that follow
abbrev pub binary_shape : BinaryOperator → ℕ → ℕ → Bool → Shape
binary_shape And a b false = Now (Both (demand a false) (demand b false))
binary_shape And a b true = Now (Either (demand a true) (demand b true))
binary_shape Or a b false = Now (Either (demand a false) (demand b false))
binary_shape Or a b true = Now (Both (demand a true) (demand b true))
binary_shape Implies a b false = Now (Either (demand a true) (demand b false))
binary_shape Implies a b true = Now (Both (demand a false) (demand b true))
binary_shape Iff a b false =
    Now (Cases (demand a false) (demand b false) (demand a true) (demand b true))
binary_shape Iff a b true =
    Now (Cases (demand a false) (demand b true) (demand a true) (demand b false))
binary_shape Xor a b false =
    Now (Cases (demand a false) (demand b true) (demand a true) (demand b false))
binary_shape Xor a b true =
    Now (Cases (demand a false) (demand b false) (demand a true) (demand b true))
binary_shape Until a b false = Fix (Same (demand b false)) (Same (demand a false)) true
binary_shape Until a b true = Fix (Both (demand a true) (demand b true)) (Same (demand b true)) false
binary_shape WeakUntil a b false = Fix (Same (demand b false)) (Same (demand a false)) false
binary_shape WeakUntil a b true = Fix (Both (demand a true) (demand b true)) (Same (demand b true)) true
binary_shape Release a b false =
    Fix (Both (demand a false) (demand b false)) (Same (demand b false)) false
binary_shape Release a b true = Fix (Same (demand b true)) (Same (demand a true)) true
binary_shape StrongRelease a b false =
    Fix (Both (demand a false) (demand b false)) (Same (demand b false)) true
binary_shape StrongRelease a b true = Fix (Same (demand b true)) (Same (demand a true)) false

-- a constant, true or negated
abbrev pub constant_shape : Bool → Bool → Shape
constant_shape value false = Now (Constant value)
constant_shape value true = Now (Constant (not value))

-- what the demand on a node comes to
abbrev pub node_shape : FormulaNode → Bool → Shape
node_shape (node.Constant value) negated = constant_shape value negated
node_shape (node.Name name) negated = Now (Literal name negated)
node_shape (node.Unary op a) negated = unary_shape op a negated
node_shape (node.Binary op a b) negated = binary_shape op a b negated

-- the shape of a demand on the nodes of a formula
abbrev pub shape_of : List FormulaNode → ℕ → Shape
shape_of nodes d = node_shape (node_at nodes (d / 2)) (is_negated d)

-- the shape of this number in a table; false beyond it
abbrev pub shape_at : List Shape → ℕ → Shape
shape_at shapes d = slice_index_or shapes d (Now (Constant false))

-- the table of shapes of the demands on some nodes
pub record AreShapesOf (nodes : List FormulaNode) (shapes : List Shape) : Type 0 where
  pub count : length shapes ≡ 2 * length nodes
  pub each : (d : ℕ) → d < length shapes → shape_at shapes d ≡ shape_of nodes d

-- a shape speaks of smaller demands alone
abbrev pub IsShapeBelow : ℕ → Shape → Type 0
IsShapeBelow d (Now c) = SpeaksBelow d c
IsShapeBelow d (Next e) = e < d
IsShapeBelow d (Fix goal keep strong) = SpeaksBelow d goal × SpeaksBelow d keep

-- each shape of a table does
abbrev pub AreGrounded : List Shape → Type 0
AreGrounded shapes = (d : ℕ) → IsShapeBelow d (shape_at shapes d)

-- the goal of a strong demand, false for others
abbrev pub goal_of : Shape → Combination
goal_of (Now c) = Constant false
goal_of (Next d) = Constant false
goal_of (Fix goal keep strong) = goal

-- a demand whose goal has to come
abbrev pub is_strong : Shape → Bool
is_strong (Now c) = false
is_strong (Next d) = false
is_strong (Fix goal keep strong) = strong
