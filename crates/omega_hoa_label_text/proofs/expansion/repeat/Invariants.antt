-- The part so far stands after what was there.
use Rattle.std.proofs.Common.{◌-◌, ◌≡◌, ◌≤◌, ◌++◌, slice_range}
use Rattle.omega_hoa_label_text.proofs.expansion.repeat.Given as goal

abbrev pub invariant-loop-from : goal.invariant-loop-from
invariant-loop-from l = record {
  forward : l.start ≤ l.from;
  within : l.from ≤ l.end;
  copied : l.out.items ≡ l.fn.out.items ++ slice_range l.fn.out.items l.start l.from;
}

abbrev pub decreases-loop-from : goal.decreases-loop-from
decreases-loop-from l = l.end - l.from
