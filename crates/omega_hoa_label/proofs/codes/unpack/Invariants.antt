-- The bytes so far are unpacked.
use Rattle.std.proofs.Common.{◌≡◌, length, map, take}
use Rattle.omega_hoa_label.specs.private.layout.Codes.{node_of}
use Rattle.omega_hoa_label.proofs.codes.unpack.Given as goal

abbrev pub invariant-loop-at : goal.invariant-loop-at
invariant-loop-at l = record {
  unpacked : take l.at l.room ≡ map node_of (take l.at l.codes);
  room : length l.room ≡ 21;
}
