-- So far there is a count for each place, and the last one is that of the number sought last.
use Rattle.std.proofs.Common.{◌≡◌, take}
use Rattle.std.specs.Prelude.{map}
use Rattle.omega_measure.specs.private.layout.Falling.{count_from}
use Rattle.omega_measure.proofs.kept.kept_of.Given as goal

abbrev pub invariant-loop-priority : goal.invariant-loop-priority
invariant-loop-priority l = record {
  kept : l.kept.items ≡ map (λ p. count_from p l.losing) (take l.priority-index l.priorities);
  sought : l.count ≡ count_from l.sought l.losing;
}
