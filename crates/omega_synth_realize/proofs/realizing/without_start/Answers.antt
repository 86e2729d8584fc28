-- no edges are a counter-strategy, and each state has a letter
use Rattle.std.proofs.Common.{◌∙◌}
use Rattle.omega_synth_realize.proofs.Realized.{startless}
use Rattle.omega_synth_realize.proofs.realizing.without_start.Goals as goal

pub returns-clause-realizability : goal.returns-clause-realizability
returns-clause-realizability c =
    startless c.no_start_is_refused.ensures c.args.automaton.now c.args._controlled.now _ _ c.requires c.new.ensures
    (c.in_ok-letters.ensures.entries ∙ c.state_count.ensures)
