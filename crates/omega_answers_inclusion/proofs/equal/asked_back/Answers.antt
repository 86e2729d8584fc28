-- a choice of the automaton of the input, and both answers together
use Rattle.std.proofs.Common.{inr}
use Rattle.omega_answers_inclusion.proofs.equal.asked_back.Goals as goal

pub returns-in-Err-clause-refused : goal.returns-in-Err-clause-refused
returns-in-Err-clause-refused c = inr (c.in-Err.refusal, c.in-Err.ensures.refused, c.refused_for.ensures)

pub returns-in-Ok-clause-right : goal.returns-in-Ok-clause-right
returns-in-Ok-clause-right c = c.equality_of.ensures c.args.first.now c.args.second.now c.requires.right c.in-Ok.ensures.right
