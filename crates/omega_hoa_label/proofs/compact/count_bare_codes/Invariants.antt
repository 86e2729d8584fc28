-- The bytes so far that stand for no parentheses are counted.
use Rattle.std.proofs.Common.{◌≡◌, ◌≤◌, count_by, map, take}
use Rattle.omega_hoa_label.specs.Bare.{is_bare}
use Rattle.omega_hoa_label.specs.private.layout.Codes.{node_of}
use Rattle.omega_hoa_label.proofs.compact.count_bare_codes.Given as goal

abbrev pub invariant-loop-code : goal.invariant-loop-code
invariant-loop-code l = record {
  counted : l.count ≡ count_by is_bare (map node_of (take l.code-index l.codes));
  within : l.count ≤ l.code-index;
}
