-- The lines that the program prints for the refusal of one of two texts, of a file, or of a run on the streams.
use Rattle.std.specs.Prelude.{Bool, true, false, ℕ, List, [], ◌++◌, Option, Some, codes, if◌then◌else◌}
use Rattle.omega_text.specs.declared.refusal.Refusal.{Refusal}
use Rattle.omega_text.specs.declared.refusal.Refusal.TheVariants.{Io}
use Rattle.omega_io.specs.Reason.{because}
use Rattle.omega_io.specs.RefusalLine.{line_of}
use Rattle.omega_io.specs.declared.failure.Failure.{Failure}
use Rattle.omega_io.specs.declared.failure.Failure.TheVariants.{Reading, Writing}
use Rattle.omega_io.specs.declared.reason.Reason.{Reason}
use Rattle.omega_io.specs.declared.reason.Reason.TheVariants.{BrokenPipe}

-- the lines for a refusal of a text with this name: the line of the refusal, and another with the name
abbrev pub lines_in : List ℕ → Refusal → List ℕ
lines_in name refusal = line_of refusal ++ (codes "omega: in the " ++ (name ++ codes "\n"))

-- the lines for the refusal of a file: the line of the refusal, and if it could not be read another with the name and
-- the reason, if there is one
abbrev pub file_lines : List ℕ → Option Reason → Refusal → List ℕ
file_lines name reason Io =
    line_of Io ++ (codes "omega: cannot read '" ++ (name ++ (codes "'" ++ because reason)))
file_lines name reason refusal = line_of refusal

-- the line that says which stream failed, and why, if there is a reason
abbrev pub failure_line : Failure → List ℕ
failure_line (Reading reason) = codes "omega: cannot read standard input" ++ because reason
failure_line (Writing reason) = codes "omega: cannot write standard output" ++ because reason

-- a write failed since nobody reads the pipe: then there is nothing to say
abbrev pub is_unheard : Failure → Bool
is_unheard (Writing (Some BrokenPipe)) = true
is_unheard failure = false

-- the lines for the refusal of a run in which this failed, if a read or a write did: one line, and with `--verbose` a
-- second one that says what failed; or none if nobody reads the output
abbrev pub stream_lines : (verbose : Bool) → Failure → Refusal → List ℕ
stream_lines verbose failure Io =
    if is_unheard failure then [] else (line_of Io ++ (if verbose then failure_line failure else []))
stream_lines verbose failure refusal = line_of refusal
