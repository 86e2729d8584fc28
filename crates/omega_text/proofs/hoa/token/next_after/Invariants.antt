-- So far the bytes are a gap.
use Rattle.std.proofs.Common.{◌-◌, length}
use Rattle.omega_text.specs.private.hoa.Gaps.{IsGapTo}
use Rattle.omega_text.proofs.hoa.token.next_after.Given as goal

abbrev pub invariant-loop-start : goal.invariant-loop-start
invariant-loop-start l = IsGapTo l.source l.at l.start

abbrev pub decreases-loop-start : goal.decreases-loop-start
decreases-loop-start l = length l.source - l.start
