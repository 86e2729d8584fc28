-- what the answer for the automaton says, and its refusals
use Rattle.omega_ltl_satisfaction.proofs.WordAnswers.{word_refused}
use Rattle.omega_ltl_satisfaction.proofs.word_satisfying.satisfaction_of_automaton.Goals as goal

pub returns-in-Err-clause-refused : goal.returns-in-Err-clause-refused
returns-in-Err-clause-refused c = λ word means. word_refused word c.args.one.now means c.args.formula.now _ c.in-Err.ensures.refused

pub returns-in-Ok-clause-right : goal.returns-in-Ok-clause-right
returns-in-Ok-clause-right c = λ word means. c.word_satisfaction_of.ensures word c.args.one.now c.args.formula.now means c.in-Ok.ensures.right
