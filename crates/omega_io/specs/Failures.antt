-- Failed reads and writes: the refusal that reports one, their number, and which stream failed.
use Rattle.std.specs.Prelude.{ℕ, ◌==◌, if◌then◌else◌, Option, Result, Ok, Err}
use Rattle.omega_text.specs.Cases.{never, or_io, or_memory}
use Rattle.omega_text.specs.declared.refusal.Refusal.{Refusal}
use Rattle.omega_text.specs.declared.refusal.Refusal.TheVariants.{Io}
use Rattle.omega_io.specs.declared.failure.Failure.{Failure}
use Rattle.omega_io.specs.declared.failure.Failure.TheVariants.{Reading, Writing}
use Rattle.omega_io.specs.declared.reason.Reason.{Reason}

-- how many reads or writes failed in a call that is refused so: one for a failed read or write, else none
abbrev pub failures_in : Refusal → ℕ
failures_in Io = 1
failures_in refusal = 0

-- how many reads or writes failed in a call that ends so
abbrev pub failures_of : {T : Type 0} → Result T Refusal → ℕ
failures_of (Ok value) = 0
failures_of (Err refusal) = failures_in refusal

-- a refusal that has nothing to do with a text: of memory, or for a failed read or write
abbrev pub IsTransferRefusal : Refusal → Type 0
IsTransferRefusal = or_memory (or_io never)

-- which stream failed, and why, if the system tells: the output if one of its writes did, else the input
abbrev pub failure_of : (read : Option Reason) → (failed_writes : ℕ)
    → (written : Option Reason) → Failure
failure_of read failed_writes written = if failed_writes == 0 then Reading read else Writing written
