-- When the circuit of a controller is refused.
use Rattle.std.specs.Prelude.{◌≡◌, ◌⊎◌, ℕ, List, All}
use Rattle.omega_text.specs.Cases.{never, or_circuit, or_memory, or_task}
use Rattle.omega_text.specs.declared.refusal.Refusal.{Refusal}
use Rattle.omega_text.specs.declared.refusal.circuit.CircuitFault.TheVariants.{Name}
use Rattle.omega_text.specs.declared.refusal.task.TaskFault.{TaskFault}
use Rattle.omega_text.specs.declared.refusal.task.TaskFault.TheVariants.{TooLarge, TooManyPropositions}
use Rattle.omega_circuit_encoder.specs.Names.{IsSymbolName}

-- a limit is passed
abbrev pub IsLimit : TaskFault → Type 0
IsLimit fault = (fault ≡ TooLarge) ⊎ (fault ≡ TooManyPropositions)

-- a refusal because a limit is passed, or for want of memory
abbrev pub IsLimitRefusal : Refusal → Type 0
IsLimitRefusal = or_task IsLimit (or_memory never)

-- 78 if a symbol cannot have one of the names, else a refusal because a limit is passed, or for want of memory
abbrev pub IsEncodingRefusal : List (List ℕ) → Refusal → Type 0
IsEncodingRefusal names =
    or_circuit (λ fault. (fault ≡ Name) × (All IsSymbolName names → ⊥))
    (or_task (λ fault. IsLimit fault × All IsSymbolName names) (or_memory never))
