-- the edges of the cycle have numbers
use Rattle.omega_lang_lasso_check.specs.Conditions.{IsNumber}
use Rattle.omega_lang_lasso_check.proofs.Connecting.{all_after}
use Rattle.omega_lang_lasso_check.proofs.judging.link_fault.Goals as goal

pub is_closed-requires-clause-there : goal.is_closed-requires-clause-there
is_closed-requires-clause-there c = all_after (IsNumber c.args.table.now.automaton.now) c.args.stem.now c.args.cycle.now c.requires.edges.numbered
