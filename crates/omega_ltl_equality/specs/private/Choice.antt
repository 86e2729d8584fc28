-- Refusals for a choice.
use Rattle.omega_text.specs.declared.refusal.Refusal.{Refusal}
use Rattle.omega_text.specs.declared.refusal.Refusal.TheVariants.{Task}
use Rattle.omega_text.specs.declared.refusal.task.TaskFault.TheVariants.{NotDeterministic, UniversalBranch}
use Rattle.omega_text.specs.declared.refusal.task.TaskFault.TheVariants.{Unjudged}

-- `Unjudged` in place of a refusal for a choice
abbrev pub unjudged_for_choice : Refusal → Refusal
unjudged_for_choice (Task (NotDeterministic state)) = Task Unjudged
unjudged_for_choice (Task UniversalBranch) = Task Unjudged
unjudged_for_choice refusal = refusal
