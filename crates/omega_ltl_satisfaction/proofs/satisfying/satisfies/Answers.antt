-- what the words that do not satisfy the formula say
use Rattle.omega_ltl_satisfaction.proofs.satisfying.satisfies.Goals as goal

pub returns-in-Ok-clause-right : goal.returns-in-Ok-clause-right
returns-in-Ok-clause-right c = c.satisfaction_of.ensures c.args.automaton.now c.args.formula.now c.in-Ok.ensures.right
