-- The conjuncts of a formula: the formulas whose conjunction it is at its top.
use Rattle.omega_ltl_formula.specs.Formula.{FormulaTree, binary, unary}
use Rattle.omega_ltl_formula.specs.declared.operators.BinaryOperator.TheVariants.{And, Implies, Or}
use Rattle.omega_ltl_formula.specs.declared.operators.UnaryOperator.TheVariants.{Not}

-- a formula is a conjunct of another, whose top may be a conjunction or a negated disjunction or implication
pub data IsConjunctOf (whole : FormulaTree) : FormulaTree → Type 0 where
  itself : IsConjunctOf whole whole
  left : (f g : FormulaTree) → IsConjunctOf whole (binary And f g) → IsConjunctOf whole f
  right : (f g : FormulaTree) → IsConjunctOf whole (binary And f g) → IsConjunctOf whole g
  not_left : (f g : FormulaTree) → IsConjunctOf whole (unary Not (binary Or f g))
      → IsConjunctOf whole (unary Not f)
  not_right : (f g : FormulaTree) → IsConjunctOf whole (unary Not (binary Or f g))
      → IsConjunctOf whole (unary Not g)
  premise : (f g : FormulaTree) → IsConjunctOf whole (unary Not (binary Implies f g))
      → IsConjunctOf whole f
  conclusion : (f g : FormulaTree) → IsConjunctOf whole (unary Not (binary Implies f g))
      → IsConjunctOf whole (unary Not g)
  not_negated : (f : FormulaTree) → IsConjunctOf whole (unary Not (unary Not f)) → IsConjunctOf whole f
