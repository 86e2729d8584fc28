-- Up to here each number is below the next.
use Rattle.std.proofs.Common.{ℕ, ◌+◌, ◌<◌, get_or}
use Rattle.omega_hoa_automaton.proofs.making.marks.is_rising.Given as goal

abbrev pub invariant-loop-at : goal.invariant-loop-at
invariant-loop-at l = (k : ℕ) → k + 1 < l.at → get_or l.numbers k 0 < get_or l.numbers (k + 1) 0
