-- What the program reads and writes, as the ghost members of its files and streams say.
use Rattle.std.specs.Prelude.{◌≡◌, List, Option, None, ℕ}
use Rattle.omega_io.specs.declared.input_files.InputFiles as file
use Rattle.omega_io.specs.declared.input.Input as input
use Rattle.omega_io.specs.declared.output.Output as output
use Rattle.omega_io.specs.Failures.{failure_of}
use Rattle.omega_io.specs.Writing.{Tells}
use Rattle.omega_io.specs.declared.failure.Failure.{Failure}
use Rattle.omega_io.specs.declared.reason.Reason.{Reason}
use Rattle.omega_io.specs.declared.unread.Unread.{Unread}

-- an output at one time: what was written, if it is known, how many writes failed, and why the last of them did, if
-- the system tells
pub record Written : Type 0 where
  pub held : Option (List ℕ)
  pub failed : ℕ
  pub reason : Option Reason

-- the input and the output at one time: what reads will give, if it is known, how many reads failed, and why the last
-- of them did, if the system tells; and what was written
pub record Streams : Type 0 where
  pub unread : Option (List ℕ)
  pub failed : ℕ
  pub reason : Option Reason
  pub written : Written

-- the streams with these parts
abbrev pub streams : (unread : Option (List ℕ)) → ℕ → Option Reason → (held : Option (List ℕ)) → ℕ
    → Option Reason → Streams
streams unread failed_reads read_reason held failed_writes write_reason = record {
  unread = unread;
  failed = failed_reads;
  reason = read_reason;
  written = record { held = held; failed = failed_writes; reason = write_reason };
}

-- what was written to an output
abbrev pub written_to : {W : Type 0} → output.Ghosts W → W → Written
written_to writing to = record {
  held = writing.contents to;
  failed = writing.failed to;
  reason = writing.reason to;
}

-- the streams of an input and an output
abbrev pub streams_of : {R W : Type 0} → input.Ghosts R → output.Ghosts W → R → W → Streams
streams_of reading writing from to = record {
  unread = reading.remaining from;
  failed = reading.failed from;
  reason = reading.reason from;
  written = written_to writing to;
}

-- which stream failed, and why, if the system tells
abbrev pub failure_in : Streams → Failure
failure_in streams = failure_of streams.reason streams.written.failed streams.written.reason

-- the same of a run that reads from no stream
abbrev pub write_failure : Written → Failure
write_failure written = failure_of None written.failed written.reason

-- nothing was written
abbrev pub KeepsOutput : (before after : Written) → Type 0
KeepsOutput before after = (after.held ≡ before.held) × (after.failed ≡ before.failed)

-- nothing was read from standard input, and no read of it failed
abbrev pub KeepsInput : Streams → Streams → Type 0
KeepsInput before after = (after.unread ≡ before.unread)
    × (after.failed ≡ before.failed) × (after.reason ≡ before.reason)

-- standard error took a text, or a beginning of it if one of its writes failed
abbrev pub tells_of : {E : Type 0} → output.Ghosts E → (before after : E) → List ℕ → Type 0
tells_of telling before after = Tells (telling.contents before) (telling.contents after)
    (telling.failed before) (telling.failed after)

-- how the files are read and refused by their names; the streams before and after; and what standard error took in
-- between
pub record World : Type 1 where
  pub reads : List ℕ → List ℕ → Type 0
  pub refuses : List ℕ → Unread → Type 0
  pub before : Streams
  pub after : Streams
  pub tells : List ℕ → Type 0

-- the world of files and a standard error, with these streams
abbrev pub world_of : {F E : Type 0} → file.Ghosts F → output.Ghosts E → F → (errors errors' : E)
    → (before after : Streams) → World
world_of reading telling files errors errors' before after = record {
  reads = reading.reads files;
  refuses = reading.refuses files;
  before = before;
  after = after;
  tells = tells_of telling errors errors';
}
