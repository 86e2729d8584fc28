-- no such word, or words that do not satisfy the formula
use Rattle.std.proofs.Common.{subst}
use Rattle.omega_ltl_formula.specs.Formula.{unary}
use Rattle.omega_ltl_formula.specs.Table.{tree_of}
use Rattle.omega_ltl_formula.specs.declared.operators.UnaryOperator.TheVariants.{Not}
use Rattle.omega_ltl_satisfaction.specs.SatisfyingWords.{AreWordsOf}
use Rattle.omega_ltl_satisfaction.proofs.Answering.{none_unsatisfying, some_unsatisfying}
use Rattle.omega_ltl_satisfaction.proofs.satisfying.satisfaction_of.Goals as goal

pub returns-in-Empty : goal.returns-in-Empty
returns-in-Empty c a formula is =
    none_unsatisfying a formula (subst (AreWordsOf a formula (unary Not (tree_of formula))) c.in-Empty.is is)

pub returns-in-Common : goal.returns-in-Common
returns-in-Common c a formula is =
    some_unsatisfying a formula c.in-Common.example (subst (AreWordsOf a formula (unary Not (tree_of formula))) c.in-Common.is is)
