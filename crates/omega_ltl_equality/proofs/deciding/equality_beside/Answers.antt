-- what the words of the complement say, and their refusals
use Rattle.omega_ltl_equality.specs.Refusing.{not_met}
use Rattle.omega_ltl_equality.proofs.Refused.{complement_met}
use Rattle.omega_ltl_equality.proofs.deciding.equality_beside.Goals as goal

pub returns-in-Ok-clause-right : goal.returns-in-Ok-clause-right
returns-in-Ok-clause-right c = λ a is_a given is satisfied.
    c.equality_of_missing.ensures.right a c.args.rest.now c.args.formula.now is_a given is satisfied c.in-Ok.ensures.right

pub returns-in-Ok-clause-given : goal.returns-in-Ok-clause-given
returns-in-Ok-clause-given c = c.equality_of_missing.ensures.given

pub returns-in-Err-clause-refused : goal.returns-in-Err-clause-refused
returns-in-Err-clause-refused c = λ a given is satisfied.
    not_met c.args.rest.now satisfied given is
    (complement_met a c.args.rest.now c.args.formula.now c.in-Err.refusal given.deterministic.plain is c.in-Err.ensures.refused)
