-- Refusals by one reason are refusals by another.
use Rattle.std.proofs.Common.{◌≡◌, refl, sym, subst}
use Rattle.std.specs.Prelude.{Result, Ok, Err, IfErr, IsErrAnd}
use Rattle.omega_hoa_expression.specs.Depth.{IsDeeper}
use Rattle.omega_text.specs.Cases.{never, or_memory, or_task}
use Rattle.omega_text.specs.declared.refusal.Refusal.{Refusal}
use Rattle.omega_text.specs.declared.refusal.Refusal.TheVariants.{Automaton, Circuit, Game, Io, Memory, Task, Text}
use Rattle.omega_text.specs.declared.refusal.task.TaskFault.{TaskFault}
use Rattle.omega_text.specs.declared.refusal.task.TaskFault.TheVariants.{TooLarge}
use Rattle.omega_hoa_edges.specs.Fitting.{IsLarge}

-- a fault of a task is another one as well
pub task_weaker : (P Q : TaskFault → Type 0) → ((fault : TaskFault) → P fault → Q fault) → (refusal : Refusal)
    → or_task P (or_memory never) refusal → or_task Q (or_memory never) refusal
task_weaker P Q weaker (Text fault) h = h
task_weaker P Q weaker (Game fault) h = h
task_weaker P Q weaker (Circuit fault) h = h
task_weaker P Q weaker (Automaton fault) h = h
task_weaker P Q weaker (Task fault) h = weaker fault h
task_weaker P Q weaker Memory h = tt
task_weaker P Q weaker Io h = h

-- what is too large is so for another reason as well
pub large_weaker : (P Q : Type 0) → (P → Q) → (refusal : Refusal) → IsLarge P refusal → IsLarge Q refusal
large_weaker P Q weaker refusal h = task_weaker (λ fault. (fault ≡ TooLarge) × P) (λ fault. (fault ≡ TooLarge) × Q) (λ fault p. (p.0, weaker p.1)) refusal h

-- and what refuses it so is a refusal of the task
pub large_task : (P : Type 0) (Q : TaskFault → Type 0) → (P → Q TooLarge) → (refusal : Refusal) → IsLarge P refusal → or_task Q (or_memory never) refusal
large_task P Q weaker refusal h = task_weaker (λ fault. (fault ≡ TooLarge) × P) Q (λ fault p. subst Q (sym p.0) (weaker p.1)) refusal h

-- an error is passed on
pub passed_on : {T : Type 0} (result : Result T Refusal) (P : Refusal → Type 0) (refusal : Refusal) → IsErrAnd result (λ e. e ≡ refusal) → P refusal → IfErr result P
passed_on (Ok x) P refusal is h = absurd is
passed_on (Err e) P refusal is h = subst P (sym is) h

-- a formula or label that is not too deep is refused for memory alone
pub not_deeper : (deep : Type 0) → (deep → ⊥) → (refusal : Refusal) → IsDeeper deep refusal → refusal ≡ Memory
not_deeper deep never (Text fault) h = absurd h
not_deeper deep never (Game fault) h = absurd h
not_deeper deep never (Circuit fault) h = absurd h
not_deeper deep never (Automaton fault) h = absurd (never h.1)
not_deeper deep never (Task fault) h = absurd h
not_deeper deep never Memory h = refl
not_deeper deep never Io h = absurd h

-- memory is a refusal of each task
pub memory_task : (P : TaskFault → Type 0) (refusal : Refusal) → refusal ≡ Memory → or_task P (or_memory never) refusal
memory_task P refusal is = subst (or_task P (or_memory never)) (sym is) tt
