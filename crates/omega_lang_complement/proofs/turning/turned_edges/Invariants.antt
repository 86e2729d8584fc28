-- the edges so far
use Rattle.std.proofs.Common.{◌≡◌, take}
use Rattle.std.specs.List.{All}
use Rattle.omega_hoa_edges.specs.AutomatonLabels.{each_by_index}
use Rattle.omega_lang_complement.specs.Written.{turned_edge}
use Rattle.omega_hoa_edges.specs.Fitting.{FitsAText}
use Rattle.omega_lang_complement.proofs.turning.turned_edges.Given as goal

abbrev pub invariant-loop-at : goal.invariant-loop-at
invariant-loop-at l = record {
  edges : l.edges ≡ each_by_index (turned_edge l.count l.state) 0 (take l.at l.state.edges);
  written : All FitsAText (take l.at l.labels);
}
