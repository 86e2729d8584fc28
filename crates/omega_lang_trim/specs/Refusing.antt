-- The refusal of trimming: `UniversalBranch`; else `TooManyPropositions`, only if a label may be given up undecided;
-- else `TooLarge`, only if the trimmed automaton, as a text writes it, passes a limit. Want of memory may come at each
-- step.
use Rattle.std.specs.Prelude.{◌≡◌, ◌<◌, true, Some}
use Rattle.omega_text.specs.Cases.{never, or_memory, or_task}
use Rattle.omega_text.specs.declared.refusal.Refusal.{Refusal}
use Rattle.omega_text.specs.declared.refusal.automaton.AutomatonFault.{AutomatonFault}
use Rattle.omega_text.specs.declared.refusal.task.TaskFault.{TaskFault}
use Rattle.omega_text.specs.declared.refusal.task.TaskFault.TheVariants.{TooLarge, TooManyPropositions}
use Rattle.omega_text.specs.declared.refusal.task.TaskFault.TheVariants.{UniversalBranch}
use Rattle.omega_hoa_expression.specs.Limits.{most_depth}
use Rattle.omega_hoa_acceptance.specs.Raw.{raw_acc_depth}
use Rattle.omega_hoa_acceptance.specs.Writing.{acc_written}
use Rattle.omega_hoa_label.specs.Label.{LabelTree}
use Rattle.omega_hoa_label.specs.Raw.{raw_depth}
use Rattle.omega_hoa_label.specs.Writing.{label_written}
use Rattle.omega_hoa_automaton.specs.Automaton.{Description}
use Rattle.omega_hoa_automaton.specs.Branching.{has_universal_branching}
use Rattle.omega_hoa_automaton.specs.Faults.{automaton_fault_of}
use Rattle.omega_lang_lasso_search.specs.Searching.{IsSearchable}
use Rattle.omega_lang_runs.specs.Judging.{HasHardLabel, IsLabelIn}
use Rattle.omega_lang_trim.specs.Trimmed.{IsTrimmed}
use Rattle.omega_lang_trim.specs.Written.{written}

-- a label is too deep with the parentheses that it needs
abbrev pub IsDeepLabel : LabelTree → Type 0
IsDeepLabel label = most_depth < raw_depth (label_written label)

-- why a trimmed automaton would be too large: its acceptance or one of its labels is too deep with the parentheses that
-- it needs, or the automaton, as its text writes it, breaks a limit of automata
pub data PassesLimit (trim : Description) : Type 0 where
  deep_acceptance : most_depth < raw_acc_depth (acc_written trim.acceptance) → PassesLimit trim
  deep_label : (label : LabelTree) → IsLabelIn trim label → IsDeepLabel label → PassesLimit trim
  broken_limit : (fault : AutomatonFault)
      → automaton_fault_of (written trim) ≡ Some fault → PassesLimit trim

-- the trimmed automaton would be too large
abbrev pub IsTooLarge : Description → Type 0
IsTooLarge a = (trim : Description) × IsTrimmed a trim × PassesLimit trim

-- a fault of trimming
abbrev pub IsTrimFault : Description → TaskFault → Type 0
IsTrimFault a UniversalBranch = has_universal_branching a ≡ true
IsTrimFault a TooManyPropositions = IsSearchable a × HasHardLabel a
IsTrimFault a TooLarge = IsSearchable a × IsTooLarge a
IsTrimFault a fault = ⊥

-- the refusal of trimming
abbrev pub IsTrimRefusal : Description → Refusal → Type 0
IsTrimRefusal a = or_task (IsTrimFault a) (or_memory never)
