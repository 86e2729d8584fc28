-- the formula, or its negation, alone
use Rattle.std.proofs.Common.{sym, subst}
use Rattle.omega_ltl_formula.specs.Formula.{FormulaTree}
use Rattle.omega_ltl_formula.specs.Table.{tree_of}
use Rattle.omega_ltl_translation.specs.Translation.{asked_tree}
use Rattle.omega_ltl_satisfaction.specs.private.Conjuncts.{AreConjuncts}
use Rattle.omega_ltl_satisfaction.proofs.Splitting.{whole_found}
use Rattle.omega_ltl_satisfaction.proofs.conjuncts.whole_conjunct.Goals as goal

pub returns-clause-conjuncts : goal.returns-clause-conjuncts
returns-clause-conjuncts c =
    let whole : FormulaTree = asked_tree c.args.negated (tree_of c.args.formula.now) in
    subst (AreConjuncts c.args.formula.now whole) (sym c.in_ok-whole.ensures.conjunct)
    (whole_found c.args.formula.now c.args.negated c.keeps_limits.ensures)
