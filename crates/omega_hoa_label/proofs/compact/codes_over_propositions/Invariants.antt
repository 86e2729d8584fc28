-- The nodes so far have their bytes over the other propositions.
use Rattle.std.proofs.Common.{◌≡◌, length, map, take}
use Rattle.omega_hoa_label.specs.private.layout.Codes.{node_of}
use Rattle.omega_hoa_label.specs.private.layout.Moving.{moved_node}
use Rattle.omega_hoa_label.proofs.compact.codes_over_propositions.Given as goal

abbrev pub invariant-loop-at : goal.invariant-loop-at
invariant-loop-at l = record {
  coded : map node_of (take l.at l.moved) ≡ map (moved_node l.places) (map node_of (take l.at l.codes));
  room : length l.moved ≡ 21;
}
