-- Only white bytes so far.
use Rattle.std.proofs.Common.{◌-◌, length}
use Rattle.omega_text.specs.pg.Cut.{IsGap}
use Rattle.omega_ltl_text.proofs.token.gap_end.Given as goal

abbrev pub invariant-loop-end : goal.invariant-loop-end
invariant-loop-end l = IsGap l.source l.from l.end

abbrev pub decreases-loop-end : goal.decreases-loop-end
decreases-loop-end l = length l.source - l.end
