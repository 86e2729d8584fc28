-- The last node is the negation of the root.
use Rattle.omega_ltl_formula.proofs.Negating.{negation_tree}
use Rattle.omega_ltl_formula.proofs.negation.negation_of.Goals as goal

pub returns-clause-tree : goal.returns-clause-tree
returns-clause-tree c = negation_tree c.args.formula.now c.keeps_limits.ensures

pub returns-in_err-nodes-clause-tree : goal.returns-in_err-nodes-clause-tree
returns-in_err-nodes-clause-tree c = negation_tree c.args.formula.now c.keeps_limits.ensures

pub returns-in_err-push-clause-tree : goal.returns-in_err-push-clause-tree
returns-in_err-push-clause-tree c = negation_tree c.args.formula.now c.keeps_limits.ensures

pub returns-in_err-names-clause-tree : goal.returns-in_err-names-clause-tree
returns-in_err-names-clause-tree c = negation_tree c.args.formula.now c.keeps_limits.ensures
