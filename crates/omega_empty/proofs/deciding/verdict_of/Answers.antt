-- if no start is won, no lasso accepts
use Rattle.omega_empty.proofs.walking.Verdicts.{none_accepts}
use Rattle.omega_empty.proofs.deciding.verdict_of.Goals as goal

pub returns-in-None-clause-verdict : goal.returns-in-None-clause-verdict
returns-in-None-clause-verdict c =
    none_accepts c.unwon_is_empty.ensures c.args.automaton.now c.args.game.now c.args.found.now c.as_slice.result.now
    c.keeps_limits.ensures c.requires.game c.requires.exact c.as_slice.ensures.value c.in-None.ensures
