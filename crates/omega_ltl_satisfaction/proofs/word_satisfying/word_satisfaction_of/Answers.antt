-- each admitted word, or some that do not satisfy the formula
use Rattle.std.proofs.Common.{subst}
use Rattle.omega_ltl_satisfaction.specs.Satisfaction.{IsSatisfaction}
use Rattle.omega_ltl_satisfaction.proofs.WordAnswers.{all_satisfy, some_unsatisfying}
use Rattle.omega_ltl_satisfaction.proofs.word_satisfying.word_satisfaction_of.Goals as goal

pub returns-in-Satisfied : goal.returns-in-Satisfied
returns-in-Satisfied c word one formula means is =
    all_satisfy word one means formula (subst (IsSatisfaction one formula) c.in-Satisfied.is is)

pub returns-in-NotSatisfied : goal.returns-in-NotSatisfied
returns-in-NotSatisfied c word one formula means is =
    some_unsatisfying word one means formula c.in-NotSatisfied.example (subst (IsSatisfaction one formula) c.in-NotSatisfied.is is)
