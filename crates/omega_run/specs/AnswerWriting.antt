-- How an answer that was made in memory is written.
use Rattle.std.specs.Prelude.{◌≡◌, ◌+◌, List, Result, Ok, Err, ℕ}
use Rattle.std.specs.Io.KnownBytes.{Appends}
use Rattle.omega_text.specs.declared.refusal.Refusal.TheVariants.{Io}
use Rattle.omega_io.specs.declared.exit.Exit.{Exit}
use Rattle.omega_io.specs.declared.refused.Refused.{Refused}
use Rattle.omega_io.specs.Refused.{about_none}
use Rattle.omega_io.specs.Writing.{WritesBeginning}
use Rattle.omega_run.specs.World.{KeepsOutput, Written}

-- the answer was written, whole, or a beginning of it if one write failed; of a refusal nothing was
abbrev pub IsWritten : (made : Result (Exit × List ℕ) Refused) → Result Exit Refused
    → (before after : Written) → Type 0
IsWritten (Ok reply) (Ok exit) before after = (exit ≡ reply.0)
    × Appends before.held after.held reply.1 × (after.failed ≡ before.failed)
IsWritten (Ok reply) (Err refused) before after = (refused ≡ about_none Io)
    × WritesBeginning before.held after.held reply.1 × (after.failed ≡ before.failed + 1)
IsWritten (Err refusal) (Ok exit) before after = ⊥
IsWritten (Err refusal) (Err refused) before after =
    (refused ≡ refusal) × KeepsOutput before after
