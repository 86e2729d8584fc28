-- the edges of the states before are judged
use Rattle.std.proofs.Common.{take}
use Rattle.std.specs.List.{flat_map}
use Rattle.omega_hoa_automaton.specs.Automaton.{edges_from}
use Rattle.omega_lang_runs.specs.Judging.{AreJudged}
use Rattle.omega_lang_lasso_search.proofs.usable.usable_flags.Given as goal

abbrev pub invariant-loop-state : goal.invariant-loop-state
invariant-loop-state l = AreJudged (flat_map edges_from (take l.state-index l.automaton.defined)) l.usable.items
