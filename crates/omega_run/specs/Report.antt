-- The status after an outcome, and the lines for it on standard error.
use Rattle.std.specs.Prelude.{◌≡◌, ◌⊎◌, ◌++◌, [], Bool, List, Result, Ok, Err, ℕ}
use Rattle.omega_text.specs.declared.refusal.Refusal.{Refusal}
use Rattle.omega_text.specs.declared.refusal.Refusal.TheVariants.{Memory}
use Rattle.omega_io.specs.declared.exit.Exit.{Exit}
use Rattle.omega_io.specs.Exit.{status_of}
use Rattle.omega_io.specs.Lines.{stream_lines}
use Rattle.omega_io.specs.RefusalLine.{line_of}
use Rattle.omega_run.specs.Causes.{MayExplain}
use Rattle.omega_run.specs.World.{Streams, failure_in}

-- the status of a refusal, and these lines on standard error
abbrev pub IsRefusalReported : Refusal → List ℕ → ℕ → (List ℕ → Type 0) → Type 0
IsRefusalReported refusal lines status tells = (status ≡ status_of (Err refusal)) × tells lines

-- the status after this outcome, and the lines for a refusal on standard error; if there is no memory for them, the
-- line of that refusal is written
abbrev pub ReportsBy : (Refusal → List ℕ) → Result Exit Refusal → ℕ → (List ℕ → Type 0) → Type 0
ReportsBy lines (Ok exit) status tells = (status ≡ status_of (Ok exit)) × tells []
ReportsBy lines (Err refusal) status tells = IsRefusalReported refusal (lines refusal) status tells
    ⊎ IsRefusalReported Memory (line_of Memory) status tells

-- the lines for the refusal of a run that left these streams: one line; with `--verbose`, if a read or a write failed,
-- a second one that says what failed; and none if nobody reads the output
abbrev pub lines_after : (verbose : Bool) → Streams → Refusal → List ℕ
lines_after verbose after = stream_lines verbose (failure_in after)

-- the same, with these lines for a refusal
abbrev pub Reports : (verbose : Bool) → Streams → Result Exit Refusal → ℕ
    → (List ℕ → Type 0) → Type 0
Reports verbose after = ReportsBy (lines_after verbose after)

-- the same, with these lines for a refusal and after them that of its cause, or no more if there is no memory for it
abbrev pub ReportsCause : (Refusal → List ℕ) → (Refusal → List ℕ → Type 0) → Result Exit Refusal → ℕ
    → (List ℕ → Type 0) → Type 0
ReportsCause lines IsReason outcome status tells =
    (cause : List ℕ) × MayExplain IsReason outcome cause
    × ReportsBy (λ refusal. lines refusal ++ cause) outcome status tells
