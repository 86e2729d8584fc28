-- Nodes of formulas that `==` finds equal are the same.
use Rattle.std.proofs.Common.{◌≡◌, ◌⊎◌, inl, inr, ◌&&◌, eqb, ℕ, Bool, true, false, List, [], ◌∷◌, ◌++◌, ap, ap₂, refl, sym, ◌∙◌, if◌then◌else◌, Option, Some}
use Rattle.std.specs.List.{slice_get}
use Rattle.std.proofs.lemmas.Bool.{and_parts, eqb-true, false≢true}
use Rattle.omega_ltl_formula.specs.contracts.node.FormulaNodePartialEq.TheImpl as node
use Rattle.omega_ltl_formula.specs.contracts.operators.BinaryOperatorPartialEq.TheImpl as binary
use Rattle.omega_ltl_formula.specs.contracts.operators.UnaryOperatorPartialEq.TheImpl as unary
use Rattle.omega_ltl_formula.specs.declared.node.FormulaNode.{FormulaNode}
use Rattle.omega_ltl_formula.specs.declared.node.FormulaNode.TheVariants.{Binary, Constant, Name, Unary}
use Rattle.omega_ltl_formula.specs.declared.operators.BinaryOperator.{BinaryOperator}
use Rattle.omega_ltl_formula.specs.declared.operators.BinaryOperator.TheVariants.{And, Iff, Implies, Or, Release, StrongRelease, Until, WeakUntil, Xor}
use Rattle.omega_ltl_formula.specs.declared.operators.UnaryOperator.{UnaryOperator}
use Rattle.omega_ltl_formula.specs.declared.operators.UnaryOperator.TheVariants.{Finally, Globally, Next, Not}
use Rattle.omega_ltl_formula.specs.private.Keys.{IsWith}

unary_same : (one other : UnaryOperator) → unary.ghosts.eq one other ≡ true → one ≡ other
unary_same Not Not e = refl
unary_same Not other e = absurd (false≢true e)
unary_same Next Next e = refl
unary_same Next other e = absurd (false≢true e)
unary_same Finally Finally e = refl
unary_same Finally other e = absurd (false≢true e)
unary_same Globally Globally e = refl
unary_same Globally other e = absurd (false≢true e)

binary_same : (one other : BinaryOperator) → binary.ghosts.eq one other ≡ true → one ≡ other
binary_same And And e = refl
binary_same And other e = absurd (false≢true e)
binary_same Or Or e = refl
binary_same Or other e = absurd (false≢true e)
binary_same Xor Xor e = refl
binary_same Xor other e = absurd (false≢true e)
binary_same Implies Implies e = refl
binary_same Implies other e = absurd (false≢true e)
binary_same Iff Iff e = refl
binary_same Iff other e = absurd (false≢true e)
binary_same Until Until e = refl
binary_same Until other e = absurd (false≢true e)
binary_same Release Release e = refl
binary_same Release other e = absurd (false≢true e)
binary_same WeakUntil WeakUntil e = refl
binary_same WeakUntil other e = absurd (false≢true e)
binary_same StrongRelease StrongRelease e = refl
binary_same StrongRelease other e = absurd (false≢true e)

pub node_same : (one other : FormulaNode) → node.ghosts.eq one other ≡ true → one ≡ other
node_same (Constant true) (Constant true) e = refl
node_same (Constant true) (Constant false) e = absurd (false≢true e)
node_same (Constant false) (Constant true) e = absurd (false≢true e)
node_same (Constant false) (Constant false) e = refl
node_same (Constant value) other e = absurd (false≢true e)
node_same (Name number) (Name other) e = ap Name (eqb-true number other e)
node_same (Name number) other e = absurd (false≢true e)
node_same (Unary op part) (Unary other_op other_part) e =
    let parts = and_parts (unary.ghosts.eq op other_op) (eqb part other_part) e in
    ap₂ Unary (unary_same op other_op parts.0) (eqb-true part other_part parts.1)
node_same (Unary op part) other e = absurd (false≢true e)
node_same (Binary op left right) (Binary other_op other_left other_right) e =
    let parts = and_parts (binary.ghosts.eq op other_op) (eqb left other_left && eqb right other_right) e in
    let operands = and_parts (eqb left other_left) (eqb right other_right) parts.1 in
    λ i. Binary (binary_same op other_op parts.0 i) (eqb-true left other_left operands.0 i) (eqb-true right other_right operands.1 i)
node_same (Binary op left right) other e = absurd (false≢true e)

-- a list after an item was put into it
pub put_with : {X : Type 0} (there : Bool) (old new : List X) (item : X) → new ≡ (if there then old else old ++ item ∷ []) → IsWith old item new
put_with true old new item e = inl e
put_with false old new item e = inr e
