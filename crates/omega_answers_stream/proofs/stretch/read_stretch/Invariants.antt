-- `read_stretch`: what was read so far is the front of the stretch, and within the limit of texts.
use Rattle.std.proofs.Common.{◌≡◌, ◌+◌, ◌-◌, ◌≤◌, vec_len}
use Rattle.std.specs.Io.KnownBytes.{Consumes}
use Rattle.omega_text.specs.Limits.{most_text}
use Rattle.omega_answers_stream.proofs.stretch.read_stretch.Given as goal

abbrev pub invariant-loop-piece : goal.invariant-loop-piece
invariant-loop-piece g l = record {
  consumed : Consumes (g.R.Input.remaining l.initial.input) (g.R.Input.remaining l.input) l.bytes.items;
  limit : l.total + vec_len l.bytes ≤ most_text + 1;
  counted : g.R.Input.failed l.input ≡ g.R.Input.failed l.initial.input;
}

abbrev pub decreases-loop-piece : goal.decreases-loop-piece
decreases-loop-piece g l = 1048576 - vec_len l.bytes
