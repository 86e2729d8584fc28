-- `segment_end`: the search goes on within the bytes that are near.
use Rattle.std.proofs.Common.{◌-◌, ◌≤◌, length}
use Rattle.omega_answers_stream.proofs.segments.segment_end.Given as goal

abbrev pub invariant-loop-at : goal.invariant-loop-at
invariant-loop-at l = record {
  forward : l.from ≤ l.at;
  near : l.at ≤ l.limit;
  within : l.limit ≤ length l.bytes;
}

abbrev pub decreases-loop-at : goal.decreases-loop-at
decreases-loop-at l = l.limit - l.at
