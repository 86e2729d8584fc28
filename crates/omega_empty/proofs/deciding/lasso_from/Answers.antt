-- the edges from the start of the loop on are a lasso's cycle
use Rattle.omega_empty.proofs.walking.Verdicts.{loop_state_is_right}
use Rattle.omega_empty.proofs.deciding.lasso_from.Goals as goal

pub returns-clause-verdict : goal.returns-clause-verdict
returns-clause-verdict c =
    loop_state_is_right c.args.automaton.now c.in_ok-looped.looped.edges.items c.as_slice.result.now c.in_ok-looped.looped.loop_start c.lasso_of.result
    c.in_ok-looped.ensures.looped c.as_slice.ensures.value c.lasso_of.ensures.lasso
