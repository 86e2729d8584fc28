-- the ends of the edges of the states so far
use Rattle.std.proofs.Common.{◌≡◌, map, take}
use Rattle.std.specs.List.{flat_map}
use Rattle.omega_hoa_automaton.specs.Automaton.{edges_from}
use Rattle.omega_lang_lasso_search.specs.Tabled.{ends_of}
use Rattle.omega_lang_lasso_search.proofs.ends.edge_ends.Given as goal

abbrev pub invariant-loop-state : goal.invariant-loop-state
invariant-loop-state l = l.ends.items ≡ map ends_of (flat_map edges_from (take l.state-index l.automaton.defined))
