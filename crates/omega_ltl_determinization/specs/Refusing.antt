-- When an automaton is refused.
use Rattle.std.specs.Prelude.{◌≡◌}
use Rattle.omega_text.specs.Cases.{never, or_memory, or_task}
use Rattle.omega_text.specs.declared.refusal.Refusal.{Refusal}
use Rattle.omega_text.specs.declared.refusal.task.TaskFault.TheVariants.{TooLarge}

-- a refusal because a limit is passed, or for want of memory
abbrev pub IsLarge : Refusal → Type 0
IsLarge = or_task (λ fault. fault ≡ TooLarge) (or_memory never)
