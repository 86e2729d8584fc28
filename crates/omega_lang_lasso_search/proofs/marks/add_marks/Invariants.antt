-- the marks of the edges before
use Rattle.std.proofs.Common.{◌≡◌, ◌++◌, map, take}
use Rattle.omega_hoa_automaton.specs.Automaton.{edges_from}
use Rattle.omega_lang_runs.specs.Lasso.{marks_of}
use Rattle.omega_lang_lasso_search.proofs.marks.add_marks.Given as goal

abbrev pub invariant-loop-at : goal.invariant-loop-at
invariant-loop-at l = l.marks.items ≡ l.initial.marks.items ++ map marks_of (take l.at (edges_from l.state))
