-- What holds in the loop of `ends_of`: for each position the first one after it with a greater rank, or the length.
use Rattle.std.proofs.Common.{◌≡◌, ℕ, ◌<◌, ◌≤◌, length, vec_len, get_or}
use Rattle.omega_game.proofs.checking.ordering.ends_of.Given as goal

abbrev pub invariant-loop-index : goal.invariant-loop-index
invariant-loop-index l = record {
  count : vec_len l.ends ≡ length l.ranks;
  within : l.index ≤ length l.ranks;
  onward : (i : ℕ) → l.index ≤ i → i < length l.ranks → i < get_or l.ends.items i 0;
  ends : (i k : ℕ) → l.index ≤ i → i < length l.ranks → i ≤ k → k < get_or l.ends.items i 0 → get_or l.ranks k 0 ≤ get_or l.ranks i 0;
}

abbrev pub decreases-loop-index : goal.decreases-loop-index
decreases-loop-index l = l.index
