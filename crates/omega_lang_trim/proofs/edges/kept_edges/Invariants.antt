-- the edges so far that stay
use Rattle.std.proofs.Common.{◌≡◌, map, take}
use Rattle.omega_lang_trim.specs.Trimmed.{edges_kept}
use Rattle.omega_lang_trim.specs.Written.{edge_written}
use Rattle.omega_lang_trim.proofs.edges.kept_edges.Given as goal

abbrev pub invariant-loop-at : goal.invariant-loop-at
invariant-loop-at l = l.edges ≡ map edge_written (edges_kept l.kept.keys l.keeping.as_written l.count l.state 0 (take l.at l.state.edges))
