-- the edges so far stay
use Rattle.std.proofs.Common.{◌≡◌, true, take}
use Rattle.std.specs.List.{list_all}
use Rattle.omega_lang_trim.specs.Trimmed.{edge_stays}
use Rattle.omega_lang_trim.proofs.edges.all_edges_stay.Given as goal

abbrev pub invariant-loop-at : goal.invariant-loop-at
invariant-loop-at l = list_all (edge_stays l.kept.keys) (take l.at l.state.edges) ≡ true
