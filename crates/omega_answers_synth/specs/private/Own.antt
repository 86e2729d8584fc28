-- What is said in place of a refusal of what the program found itself.
use Rattle.omega_text.specs.declared.refusal.Refusal.{Refusal}
use Rattle.omega_text.specs.declared.refusal.Refusal.TheVariants.{Automaton, Memory, Task, Text}
use Rattle.omega_text.specs.declared.refusal.automaton.AutomatonFault.TheVariants.{Expansion}
use Rattle.omega_text.specs.declared.refusal.task.TaskFault.TheVariants.{NotDeterministic, NotParity, TooLarge}
use Rattle.omega_text.specs.declared.refusal.task.TaskFault.TheVariants.{UniversalBranch, Unjudged}
use Rattle.omega_text.specs.declared.refusal.text.TextFault.TheVariants.{TooLong}

-- a fault of the program in place of a refusal of its form
abbrev pub unjudged_for_form : Refusal → Refusal
unjudged_for_form (Task NotParity) = Task Unjudged
unjudged_for_form (Task UniversalBranch) = Task Unjudged
unjudged_for_form (Task (NotDeterministic state)) = Task Unjudged
unjudged_for_form refusal = refusal

-- in place of a refusal to read it: it is too large, or the program is at fault
abbrev pub unread_for_size : Refusal → Refusal
unread_for_size (Text TooLong) = Task TooLarge
unread_for_size (Automaton Expansion) = Task TooLarge
unread_for_size Memory = Memory
unread_for_size refusal = Task Unjudged
