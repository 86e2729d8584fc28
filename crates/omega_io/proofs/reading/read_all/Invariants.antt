-- `read_all`: what was read so far is the text, within the limit.
use Rattle.std.proofs.Common.{◌≡◌, ◌+◌, ◌-◌, ◌≤◌, vec_len}
use Rattle.std.specs.Io.KnownBytes.{Consumes}
use Rattle.omega_text.specs.Limits.{most_text}
use Rattle.omega_io.proofs.reading.read_all.Given as goal

abbrev pub invariant-loop-piece : goal.invariant-loop-piece
invariant-loop-piece g l = record {
  consumed : Consumes (g.R.Input.remaining l.initial.input) (g.R.Input.remaining l.input) l.text.items;
  limit : vec_len l.text ≤ most_text + 1;
  counted : g.R.Input.failed l.input ≡ g.R.Input.failed l.initial.input;
}

abbrev pub decreases-loop-piece : goal.decreases-loop-piece
decreases-loop-piece g l = most_text + 1 - vec_len l.text
