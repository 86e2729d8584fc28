-- Refusals by which it is not judged whether two edges can be taken at one letter.
use Rattle.std.specs.Prelude.{Bool, false, true}
use Rattle.omega_text.specs.declared.refusal.Refusal.{Refusal}
use Rattle.omega_text.specs.declared.refusal.Refusal.TheVariants.{Task}
use Rattle.omega_text.specs.declared.refusal.task.TaskFault.TheVariants.{TooLarge, TooManyPropositions}

-- whether a refusal is such a one
abbrev pub is_undecided : Refusal → Bool
is_undecided (Task TooManyPropositions) = true
is_undecided (Task TooLarge) = true
is_undecided refusal = false
