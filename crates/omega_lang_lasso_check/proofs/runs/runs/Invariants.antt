-- the runs of the marks of the edges before
use Rattle.std.proofs.Common.{map, nat_eq, take}
use Rattle.indexmap.specs.IndexMap.{get}
use Rattle.omega_lang_runs.specs.Lasso.{marks_at}
use Rattle.omega_lang_lasso_check.specs.private.Runs.{AreRuns}
use Rattle.omega_lang_lasso_check.proofs.runs.runs.Given as goal

abbrev pub invariant-loop-at : goal.invariant-loop-at
invariant-loop-at l = AreRuns (map (marks_at l.table.automaton.now) (take l.at l.cycle)) (get nat_eq l.runs)
