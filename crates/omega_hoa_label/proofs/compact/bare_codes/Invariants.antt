-- The bytes so far that stand for no parentheses are kept.
use Rattle.std.proofs.Common.{◌≡◌, ◌≤◌, filter, length, map, take}
use Rattle.omega_hoa_label.specs.Bare.{is_bare}
use Rattle.omega_hoa_label.specs.private.layout.Codes.{node_of}
use Rattle.omega_hoa_label.proofs.compact.bare_codes.Given as goal

abbrev pub invariant-loop-code : goal.invariant-loop-code
invariant-loop-code l = record {
  kept : map node_of (take l.count l.bare) ≡ filter is_bare (map node_of (take l.code-index l.codes));
  within : l.count ≤ l.code-index;
  room : length l.bare ≡ 21;
}
