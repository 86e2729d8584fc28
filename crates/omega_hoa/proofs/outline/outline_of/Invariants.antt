-- The tokens so far have this outline, up to the place of the next.
use Rattle.std.proofs.Common.{◌-◌, ◌≤◌, length}
use Rattle.omega_hoa.specs.private.outlines.Outline.{HasOutlineTo}
use Rattle.omega_hoa.proofs.outline.outline_of.Given as goal

abbrev pub invariant-loop-token : goal.invariant-loop-token
invariant-loop-token l = record { so_far : HasOutlineTo l.source l.at l.outline; inside : l.at ≤ length l.source }

abbrev pub decreases-loop-token : goal.decreases-loop-token
decreases-loop-token l = length l.source - l.at
