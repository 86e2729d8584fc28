-- The nodes so far have their bytes.
use Rattle.std.proofs.Common.{◌≡◌, length, map, take}
use Rattle.omega_hoa_label.specs.private.layout.Codes.{node_of}
use Rattle.omega_hoa_label.proofs.compact.codes_of.Given as goal

abbrev pub invariant-loop-at : goal.invariant-loop-at
invariant-loop-at l = record {
  coded : map node_of (take l.at l.codes) ≡ take l.at l.nodes;
  room : length l.codes ≡ 21;
}
