-- What is said of a circuit that the program made itself if the judge does not say `yes` to it.
use Rattle.std.specs.Prelude.{◌≡◌, List, ℕ}
use Rattle.omega_io.specs.declared.exit.Exit.{Exit}
use Rattle.omega_io.specs.declared.exit.Exit.TheVariants.{No}
use Rattle.omega_io.specs.declared.refused.Refused.{Refused}
use Rattle.omega_text.specs.declared.refusal.Refusal.{Refusal}
use Rattle.omega_text.specs.declared.refusal.Refusal.TheVariants.{Memory, Task}
use Rattle.omega_text.specs.declared.refusal.task.TaskFault.TheVariants.{TooLarge, TooManyPropositions, Unjudged}

-- in place of a refusal of the judge: a limit is passed, memory is wanting, or the program is at fault
abbrev pub unjudged_refusal : Refusal → Refusal
unjudged_refusal (Task TooLarge) = Task TooLarge
unjudged_refusal (Task TooManyPropositions) = Task TooManyPropositions
unjudged_refusal Memory = Memory
unjudged_refusal refusal = Task Unjudged

-- the judge, with these answers and refusals, does not say `yes`: it says `no`, or it refuses
pub data IsUnjudged (Answers : Exit → List ℕ → Type 0) (Refuses : Refused → Type 0) (refusal : Refusal)
    : Type 0 where
  answered_no : (output : List ℕ) → Answers No output → refusal ≡ Task Unjudged
      → IsUnjudged Answers Refuses refusal
  not_answered : (refused : Refused) → Refuses refused → refusal ≡ unjudged_refusal refused.refusal
      → IsUnjudged Answers Refuses refusal
