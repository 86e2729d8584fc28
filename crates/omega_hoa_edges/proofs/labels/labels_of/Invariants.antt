-- the labels so far
use Rattle.std.proofs.Common.{◌≡◌, take}
use Rattle.std.specs.List.{All}
use Rattle.omega_hoa_label.specs.Shape.{FitsALabel}
use Rattle.omega_hoa_edges.specs.AutomatonLabels.{each_by_index}
use Rattle.omega_hoa_edges.specs.Labels.{label_at}
use Rattle.omega_hoa_edges.proofs.labels.labels_of.Given as goal

abbrev pub invariant-loop-at : goal.invariant-loop-at
invariant-loop-at l = record {
  labels : l.labels.items ≡ each_by_index (label_at l.count l.state) 0 (take l.at l.state.edges);
  fits : All FitsALabel l.labels.items;
}
