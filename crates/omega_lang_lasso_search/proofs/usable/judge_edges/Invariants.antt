-- the edges before are judged
use Rattle.std.proofs.Common.{◌≡◌, ◌++◌, Bool, List, take}
use Rattle.omega_hoa_automaton.specs.Automaton.{edges_from}
use Rattle.omega_lang_runs.specs.Judging.{AreJudged}
use Rattle.omega_lang_lasso_search.proofs.usable.judge_edges.Given as goal

abbrev pub invariant-loop-at : goal.invariant-loop-at
invariant-loop-at l = (own : List Bool) × (l.usable.items ≡ l.initial.usable.items ++ own) × AreJudged (take l.at (edges_from l.state)) own
