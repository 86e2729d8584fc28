-- What holds in the loop of `shared_end`: the last `shared` numbers of both lists are the same.
use Rattle.std.proofs.Common.{◌-◌, ◌≡◌, ◌≤◌, drop, length}
use Rattle.omega_lang_lasso_search.proofs.turning.shared_end.Given as goal

abbrev pub invariant-loop-shared : goal.invariant-loop-shared
invariant-loop-shared l =
    (l.shared ≤ l.most) × (l.most ≤ length l.stem) × (l.most ≤ length l.cycle)
    × (drop (length l.stem - l.shared) l.stem ≡ drop (length l.cycle - l.shared) l.cycle)

abbrev pub decreases-loop-shared : goal.decreases-loop-shared
decreases-loop-shared l = l.most - l.shared
