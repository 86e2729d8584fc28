-- the marks of the edges of the states so far
use Rattle.std.proofs.Common.{◌≡◌, map, take}
use Rattle.std.specs.List.{flat_map}
use Rattle.omega_hoa_automaton.specs.Automaton.{edges_from}
use Rattle.omega_lang_runs.specs.Lasso.{marks_of}
use Rattle.omega_lang_lasso_search.proofs.marks.edge_marks.Given as goal

abbrev pub invariant-loop-state : goal.invariant-loop-state
invariant-loop-state l = l.marks.items ≡ map marks_of (flat_map edges_from (take l.state-index l.automaton.defined))
