-- a choice of the automaton of the file
use Rattle.std.proofs.Common.{inl}
use Rattle.omega_answers_inclusion.proofs.equal.equality_by_containment.Goals as goal

pub returns-in-Err-clause-refused : goal.returns-in-Err-clause-refused
returns-in-Err-clause-refused c = inl (c.in-Err.refusal, c.in-Err.ensures.refused, c.refused_for.ensures)
