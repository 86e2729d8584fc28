-- `ask_each`: what was read so far is followed.
use Rattle.std.proofs.Common.{◌≡◌, ◌+◌, ◌-◌, ◌≤◌}
use Rattle.omega_text.specs.Limits.{most_text}
use Rattle.omega_answers_stream.specs.private.steps.Following.{IsReading}
use Rattle.omega_answers_stream.specs.private.steps.Question.{AreAskedBy}
use Rattle.omega_answers_stream.proofs.stream_input.ask_each.Given as goal

abbrev pub invariant-loop-total : goal.invariant-loop-total
invariant-loop-total g l = record {
  reading : IsReading (AreAskedBy g.Q.ItemQuestion l.question) (g.R.Input.remaining l.fn.input) (g.R.Input.remaining l.input) l.total l.asking;
  limit : l.total ≤ most_text + 1;
  counted : g.R.Input.failed l.input ≡ g.R.Input.failed l.fn.input;
}

abbrev pub decreases-loop-total : goal.decreases-loop-total
decreases-loop-total g l = most_text + 1 - l.total
