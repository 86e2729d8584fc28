-- the fault, if it is a limit
use Rattle.omega_ltl_translation.proofs.forming.meaning_of.Goals as goal

pub returns-in-Err-clause-refused : goal.returns-in-Err-clause-refused
returns-in-Err-clause-refused c = c.limit_of.ensures c.args.raw c.in-Err.ensures.err
