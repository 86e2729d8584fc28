-- Which refusal of the search for a lasso applies: `UniversalBranch` before `TooManyPropositions`, or `Memory`.
use Rattle.std.specs.Prelude.{◌≡◌, true, false}
use Rattle.omega_text.specs.Cases.{never, or_memory, or_task}
use Rattle.omega_text.specs.declared.refusal.Refusal.{Refusal}
use Rattle.omega_text.specs.declared.refusal.task.TaskFault.{TaskFault}
use Rattle.omega_text.specs.declared.refusal.task.TaskFault.TheVariants.{TooManyPropositions, UniversalBranch}
use Rattle.omega_hoa_automaton.specs.Automaton.{Description}
use Rattle.omega_hoa_automaton.specs.Branching.{has_universal_branching}
use Rattle.omega_lang_runs.specs.Judging.{HasHardLabel}

-- `UniversalBranch` does not apply: each start and each edge lists one state
abbrev pub IsSearchable : Description → Type 0
IsSearchable a = has_universal_branching a ≡ false

-- the fault applies, and none with a lesser number does; `TooManyPropositions` only if a label may be
-- given up undecided
abbrev pub IsSearchFault : Description → TaskFault → Type 0
IsSearchFault a UniversalBranch = has_universal_branching a ≡ true
IsSearchFault a TooManyPropositions = (has_universal_branching a ≡ false) × HasHardLabel a
IsSearchFault a fault = ⊥

-- the refusals of the search
abbrev pub IsSearchRefusal : Description → Refusal → Type 0
IsSearchRefusal a = or_task (IsSearchFault a) (or_memory never)
