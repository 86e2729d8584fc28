-- The status with which the program ends.
use Rattle.std.specs.Prelude.{ℕ, ◌==◌, if◌then◌else◌, Result, Ok, Err}
use Rattle.omega_text.specs.Refusal.{number_of}
use Rattle.omega_text.specs.declared.refusal.Refusal.{Refusal}
use Rattle.omega_io.specs.declared.exit.Exit.{Exit}
use Rattle.omega_io.specs.declared.exit.Exit.TheVariants.{Done, No}

-- the status after a refusal: 3 if the budget is used up, 4 if memory is refused, 5 if a read or write failed,
-- 1 for all others
abbrev pub refusal_status : Refusal → ℕ
refusal_status refusal =
    if number_of refusal == 51 then 3 else
    if number_of refusal == 60 then 4 else
    if number_of refusal == 61 then 5 else
    1

-- the status after a command: 0 if it is done, 6 if its answer is no, else that of the refusal
abbrev pub status_of : Result Exit Refusal → ℕ
status_of (Ok Done) = 0
status_of (Ok No) = 6
status_of (Err refusal) = refusal_status refusal

-- the status after a fault of the command line
abbrev pub fault_status : ℕ
fault_status = 2
