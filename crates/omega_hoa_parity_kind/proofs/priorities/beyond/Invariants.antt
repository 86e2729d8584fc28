-- What is the highest so far, with the marks that are left, is beyond them all.
use Rattle.std.proofs.Common.{◌≡◌, ◌≤◌, drop, max}
use Rattle.omega_hoa_parity_kind.specs.Priority.{beyond}
use Rattle.omega_hoa_parity_kind.proofs.priorities.beyond.Given as goal

abbrev pub invariant-loop-mark : goal.invariant-loop-mark
invariant-loop-mark l = record {
  rest : max l.highest (beyond (drop l.mark-index l.marks)) ≡ beyond l.marks;
  limit : l.highest ≤ l.count;
}
