-- What is made of a text, or refused, did not fail.
use Rattle.std.proofs.Common.{◌≡◌, Result, Ok, Err, IfErr, refl}
use Rattle.omega_text.specs.Cases.{or_memory}
use Rattle.omega_text.specs.declared.refusal.Refusal.{Refusal}
use Rattle.omega_text.specs.declared.refusal.Refusal.TheVariants.{Automaton, Circuit, Game, Io, Memory, Task, Text}
use Rattle.omega_io.specs.Failures.{failures_of}

-- where no refusal is that of a read or a write that failed, none failed
pub unfailed : {T : Type 0} (Refuses : Refusal → Type 0) → ¬ Refuses Io → (result : Result T Refusal) → IfErr result (or_memory Refuses)
    → failures_of result ≡ 0
unfailed Refuses none (Ok made) refused = refl
unfailed Refuses none (Err (Text fault)) refused = refl
unfailed Refuses none (Err (Game fault)) refused = refl
unfailed Refuses none (Err (Circuit fault)) refused = refl
unfailed Refuses none (Err (Automaton fault)) refused = refl
unfailed Refuses none (Err (Task fault)) refused = refl
unfailed Refuses none (Err Memory) refused = refl
unfailed Refuses none (Err Io) refused = absurd (none refused)
