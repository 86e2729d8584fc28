-- the ends of the edges before
use Rattle.std.proofs.Common.{◌≡◌, ◌++◌, map, take}
use Rattle.omega_hoa_automaton.specs.Automaton.{edges_from}
use Rattle.omega_lang_lasso_search.specs.Tabled.{ends_of}
use Rattle.omega_lang_lasso_search.proofs.ends.add_ends.Given as goal

abbrev pub invariant-loop-at : goal.invariant-loop-at
invariant-loop-at l = l.ends.items ≡ l.initial.ends.items ++ map ends_of (take l.at (edges_from l.state))
