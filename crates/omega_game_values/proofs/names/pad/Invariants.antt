-- What holds in the loop of `pad`: gives each of the first `count` nodes an entry, which leaves the names as they are.
use Rattle.std.proofs.Common.{◌≡◌, ℕ, ◌-◌, ◌≤◌, [], length, get_or}
use Rattle.omega_game_values.proofs.names.pad.Given as goal

abbrev pub invariant-loop-quoted : goal.invariant-loop-quoted
invariant-loop-quoted l = ((v : ℕ) → get_or l.quoted v [] ≡ get_or l.initial.quoted v []) × (length l.quoted ≤ l.count)

abbrev pub decreases-loop-quoted : goal.decreases-loop-quoted
decreases-loop-quoted l = l.count - length l.quoted
