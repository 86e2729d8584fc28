-- Refusals of the private functions that judge states.
use Rattle.std.specs.Prelude.{◌≡◌, ℕ, Bool, false, List}
use Rattle.omega_text.specs.Cases.{never, or_memory, or_task}
use Rattle.omega_text.specs.declared.refusal.Refusal.{Refusal}
use Rattle.omega_text.specs.declared.refusal.task.TaskFault.{TaskFault}
use Rattle.omega_hoa_label.specs.Label.{LabelTree}
use Rattle.omega_hoa_automaton.specs.Automaton.{Description}
use Rattle.omega_hoa_automaton.specs.declared.state.State.{State}
use Rattle.omega_hoa_edges.specs.Labels.{is_full}
use Rattle.omega_hoa_edges.specs.AutomatonLabels.{is_full_at, labels_at, labels_of}
use Rattle.omega_hoa_edges.specs.Refusing.{IsClashFault}

-- the fault of judging the edges of a state, unless it has an edge for each valuation
abbrev pub IsPartialFault : Bool → List LabelTree → ℕ → TaskFault → Type 0
IsPartialFault full labels number fault = (full ≡ false) × IsClashFault labels number fault

-- the refusal of judging a state over `count` propositions
abbrev pub IsUnjudgedOf : ℕ → State → Refusal → Type 0
IsUnjudgedOf count state = or_task
    (IsPartialFault (is_full count state) (labels_of count state) state.number) (or_memory never)

-- the refusal of judging the state with a number
abbrev pub IsUnjudgedAt : Description → ℕ → Refusal → Type 0
IsUnjudgedAt a number =
    or_task (IsPartialFault (is_full_at a number) (labels_at a number) number) (or_memory never)
