-- what the intersection says, and its refusals
use Rattle.omega_lang_inclusion.specs.Refusing.{not_met}
use Rattle.omega_lang_inclusion.proofs.containing.contained_beside.Goals as goal

pub returns-in-Err-clause-refused : goal.returns-in-Err-clause-refused
returns-in-Err-clause-refused c = λ other is. not_met c.args.rest.now is.given is.is_rest c.in-Err.ensures.refused

pub returns-in-Ok-clause-right : goal.returns-in-Ok-clause-right
returns-in-Ok-clause-right c = λ other is. c.containment_of.ensures c.args.one.now other c.args.rest.now is c.in-Ok.ensures.right
