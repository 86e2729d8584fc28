-- a lasso that has a fault does not accept
use Rattle.omega_lang_lasso_check.proofs.Verdicts.{none_exactly}
use Rattle.omega_lang_lasso_check.proofs.judging.judge_lasso.Goals as goal

pub returns-clause-accepting : goal.returns-clause-accepting
returns-clause-accepting c = none_exactly c.args.automaton.now c.args.stem.now c.args.cycle.now c.in_ok-found.found c.in_ok-found.ensures.judged
