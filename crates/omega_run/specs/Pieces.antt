-- A stream that is answered while it is read: what that leaves of the input and the output.
use Rattle.std.specs.Prelude.{◌≡◌, ◌+◌, ◌<◌, ◌≤◌, List, Option, Result, Ok, Err, ℕ}
use Rattle.std.specs.Io.KnownBytes.{Appends, Keeps}
use Rattle.omega_text.specs.Cases.{or_io, or_memory}
use Rattle.omega_text.specs.declared.refusal.Refusal.{Refusal}
use Rattle.omega_cli_command.specs.declared.stream.Stream.{Stream}
use Rattle.omega_io.specs.declared.exit.Exit.{Exit}
use Rattle.omega_io.specs.Failures.{failures_in}
use Rattle.omega_io.specs.Reading.{ReadsText, ReadsWhole}
use Rattle.omega_io.specs.Writing.{WritesBeginning}
use Rattle.omega_run.specs.Streams.{AnswersStream}
use Rattle.omega_run.specs.World.{Streams}

-- the whole input was read, and this is the answer to its text
abbrev pub Responds : Stream → ℕ → (unread_before unread_after : Option (List ℕ)) → Exit → List ℕ → Type 0
Responds stream budget unread_before unread_after exit output =
    ReadsWhole unread_before unread_after (λ text. AnswersStream stream budget text (Ok (exit, output)))

-- why there is no answer: want of memory or a failed read or write, else the input was read, to its end or past the
-- limit, and its text is refused
abbrev pub IsStreamRefusal : Stream → ℕ → (unread_before unread_after : Option (List ℕ))
    → Refusal → Type 0
IsStreamRefusal stream budget unread_before unread_after = or_memory (or_io
    (λ refusal.
    ReadsText unread_before unread_after (λ text. AnswersStream stream budget text (Err refusal))))

-- the whole input was read, and the whole answer to it was written
abbrev pub Completes : Stream → ℕ → Streams → Streams → Exit → Type 0
Completes stream budget before after exit =
    (output : List ℕ) × Responds stream budget before.unread after.unread exit output
    × Appends before.written.held after.written.held output

-- the whole input was read, and of the answer to it a beginning was written, and not all
abbrev pub BreaksOff : Stream → ℕ → Streams → Streams → Type 0
BreaksOff stream budget before after =
    (exit : Exit) × (output : List ℕ) × Responds stream budget before.unread after.unread exit output
    × WritesBeginning before.written.held after.written.held output

-- the run was refused: it wrote nothing, or a beginning of its answer if a write failed; one read or write failed if it
-- is refused for that, and else none
pub record IsRefusedRun (stream : Stream) (budget : ℕ) (refusal : Refusal)
    (before after : Streams) : Type 0 where
  pub refused : IsStreamRefusal stream budget before.unread after.unread refusal
  pub unwritten : after.written.failed ≡ before.written.failed
      → Keeps before.written.held after.written.held
  pub broken_off : before.written.failed < after.written.failed → BreaksOff stream budget before after
  pub counted : after.failed + after.written.failed
      ≡ before.failed + before.written.failed + failures_in refusal
  pub reads_kept : before.failed ≤ after.failed
  pub writes_kept : before.written.failed ≤ after.written.failed

-- the stream was answered with this outcome
abbrev pub IsRunOnStream : Stream → ℕ → Result Exit Refusal → Streams → Streams → Type 0
IsRunOnStream stream budget (Ok exit) before after = Completes stream budget before after exit
    × (after.failed ≡ before.failed) × (after.written.failed ≡ before.written.failed)
IsRunOnStream stream budget (Err refusal) before after =
    IsRefusedRun stream budget refusal before after
