-- `all_go_on`: all bytes go on exactly if those that are left do.
use Rattle.std.proofs.Common.{◌≡◌, drop}
use Rattle.std.specs.List.{list_all}
use Rattle.omega_hoa_edges.specs.Names.{goes_on}
use Rattle.omega_hoa_edges.proofs.names.all_go_on.Given as goal

abbrev pub invariant-loop-byte : goal.invariant-loop-byte
invariant-loop-byte l = list_all goes_on (drop l.byte-index l.bytes) ≡ list_all goes_on l.bytes
