-- the numbers so far
use Rattle.std.proofs.Common.{◌≡◌, [], get_or}
use Rattle.std.specs.List.{filter, list_any, range_with_len}
use Rattle.std.specs.Str.{bytes_eq}
use Rattle.omega_synth_check.proofs.ways_out.numbers_named.Given as goal

abbrev pub invariant-loop-p : goal.invariant-loop-p
invariant-loop-p l = l.found.items ≡ filter (λ p. list_any (bytes_eq (get_or l.names p [])) l.controlled) (range_with_len 0 l.p)
