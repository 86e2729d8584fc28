-- So far the fields are packed, and the last is known.
use Rattle.std.proofs.Common.{◌≡◌, ◌<◌, ◌≤◌, take}
use Rattle.omega_measure.specs.private.layout.Field.{ArePacked, last_field}
use Rattle.omega_measure.proofs.fields.fields_of.Given as goal

abbrev pub invariant-loop-limit : goal.invariant-loop-limit
invariant-loop-limit l = record {
  packed : ArePacked (take l.limit-index l.limits) l.fields.items;
  last : l.last ≡ last_field l.fields.items;
  word : l.last.word ≤ l.limit-index;
  room : l.last.shift < 64;
}
