-- `sharing_of`: the edges from this one on are done.
use Rattle.std.proofs.Common.{◌≡◌, ℕ, ◌+◌, ◌<◌, ◌≤◌, Some, None, length, get_or}
use Rattle.std.specs.BTreeMap.{get}
use Rattle.std.specs.Ordering.{nat_cmp}
use Rattle.omega_hoa_dot.specs.private.layout.Sharing.{next_to}
use Rattle.omega_hoa_dot.proofs.sharing.sharing_of.Given as goal

abbrev pub invariant-loop-index : goal.invariant-loop-index
invariant-loop-index l = record {
  entries : length l.next.items ≡ length l.targets;
  next : (index target : ℕ) → l.index ≤ index → index < length l.targets → get_or l.targets index None ≡ Some target
      → get_or l.next.items index None ≡ next_to l.targets (index + 1) target;
  firsts : (target : ℕ) → get nat_cmp l.firsts target ≡ next_to l.targets l.index target;
}
