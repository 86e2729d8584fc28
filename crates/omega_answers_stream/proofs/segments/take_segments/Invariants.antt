-- `take_segments`: the bytes so far are followed.
use Rattle.std.proofs.Common.{◌-◌, ◌≤◌, length, take}
use Rattle.omega_answers_stream.specs.private.steps.Following.{FollowsPiece}
use Rattle.omega_answers_stream.specs.private.steps.Question.{AreAskedBy}
use Rattle.omega_answers_stream.proofs.segments.take_segments.Given as goal

abbrev pub invariant-loop-at : goal.invariant-loop-at
invariant-loop-at g l = record {
  within : l.at ≤ length l.bytes;
  follows : FollowsPiece (AreAskedBy g.Q.ItemQuestion l.question) (take l.at l.bytes) l.fn.asking l.asking;
}

abbrev pub decreases-loop-at : goal.decreases-loop-at
decreases-loop-at g l = length l.bytes - l.at
