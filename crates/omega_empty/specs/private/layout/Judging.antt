-- What judging the labels of edges adds to a list, and what it refuses.
use Rattle.std.specs.Prelude.{◌≡◌, ◌++◌, Bool, List}
use Rattle.omega_text.specs.Cases.{never, or_memory, or_task}
use Rattle.omega_text.specs.declared.refusal.Refusal.{Refusal}
use Rattle.omega_text.specs.declared.refusal.task.TaskFault.TheVariants.{TooManyPropositions}
use Rattle.omega_hoa_automaton.specs.Automaton.{edges_from}
use Rattle.omega_hoa_automaton.specs.declared.state.State.{State}
use Rattle.omega_lang_runs.specs.Judging.{AreJudged}

-- whether each edge of a state is usable is put after a list
abbrev pub AppendsJudged : State → (old new : List Bool) → Type 0
AppendsJudged state old new =
    (own : List Bool) × (new ≡ old ++ own) × AreJudged (edges_from state) own

-- a label mentions too many propositions, in the sense given
abbrev pub IsWideFault : Type 0 → Refusal → Type 0
IsWideFault Wide = or_task (λ fault. (fault ≡ TooManyPropositions) × Wide) never

-- the same, or want of memory
abbrev pub IsWideRefusal : Type 0 → Refusal → Type 0
IsWideRefusal Wide = or_task (λ fault. (fault ≡ TooManyPropositions) × Wide) (or_memory never)
