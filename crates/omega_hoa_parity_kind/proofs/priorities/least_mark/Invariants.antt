-- The lowest so far, with the marks that are left, is the least of all.
use Rattle.std.proofs.Common.{◌≡◌, ◌≤◌, drop, min}
use Rattle.omega_hoa_parity_kind.specs.Priority.{least_mark}
use Rattle.omega_hoa_parity_kind.proofs.priorities.least_mark.Given as goal

abbrev pub invariant-loop-mark : goal.invariant-loop-mark
invariant-loop-mark l = record {
  rest : min l.lowest (least_mark l.count (drop l.mark-index l.marks)) ≡ least_mark l.count l.marks;
  limit : l.lowest ≤ l.count;
}
