-- What is found on the way to the line.
use Rattle.std.specs.Prelude.{◌≡◌, ◌⊎◌, ℕ, ◌<◌, List, [], Option, Some, None, MatchOption, Result, Ok, Err}
use Rattle.omega_text.specs.declared.refusal.Refusal.{Refusal}
use Rattle.omega_text.specs.declared.refusal.Refusal.TheVariants.{Memory, Task}
use Rattle.omega_text.specs.declared.refusal.task.TaskFault.{TaskFault}
use Rattle.omega_text.specs.declared.refusal.task.TaskFault.TheVariants.{NotDeterministic}
use Rattle.omega_hoa_label.specs.Label.{LabelTree}
use Rattle.omega_hoa_automaton.specs.Automaton.{Description}
use Rattle.omega_hoa_edges.specs.AutomatonLabels.{labels_at, state_at}
use Rattle.omega_hoa_edges.specs.Refusing.{IsFirstClash}
use Rattle.omega_hoa_diagnostics.specs.ChoiceCauses.{HasNoChoiceToTell, TellsChoice}
use Rattle.omega_hoa_diagnostics.specs.Choices.{AreAllPassedOver, CanBeTakenTogether}
use Rattle.omega_hoa_diagnostics.specs.Choices.{IsFirstChoice, IsPassedOver}
use Rattle.omega_hoa_automaton.specs.Automaton.{edges_before}
use Rattle.omega_hoa_diagnostics.specs.declared.choosing.Choice.{Choice}
use Rattle.omega_hoa_diagnostics.specs.declared.rows.StateRow.{StateRow}

-- the line is about a choice, or there is none to tell and no line
abbrev pub IsStatesLine : Description → List ℕ → Type 0
IsStatesLine a line = TellsChoice a line ⊎ ((line ≡ []) × HasNoChoiceToTell a)

-- the first state of which two edges can be taken together, or none if there is no choice to tell
abbrev pub IsClashFound : Description → Option ℕ → Type 0
IsClashFound a found = MatchOption found (HasNoChoiceToTell a) (IsFirstClash a)

-- the state that a fault of judging tells
abbrev pub state_told : TaskFault → Option ℕ
state_told (NotDeterministic state) = Some state
state_told fault = None

-- the state that a refusal of judging tells; want of memory tells nothing and is handed on
abbrev pub clash_in : Refusal → Result (Option ℕ) Refusal
clash_in (Task fault) = Ok (state_told fault)
clash_in Memory = Err Memory
clash_in refusal = Ok None

-- the first two edges of a state that can be taken together, or none if all are passed over
abbrev pub IsChoiceFound : List LabelTree → Option Choice → Type 0
IsChoiceFound labels found = MatchOption found (AreAllPassedOver labels)
    (λ choice. IsFirstChoice labels choice.first choice.second)

-- the first edge that can be taken together with one before it; those between are passed over with that one
pub record IsSecond (labels : List LabelTree) (first second : ℕ) : Type 0 where
  pub together : CanBeTakenTogether labels first second
  pub before : (other : ℕ) → other < second → IsPassedOver labels first other

-- that edge, or none if each edge is passed over with the first
abbrev pub IsSecondFound : List LabelTree → ℕ → Option ℕ → Type 0
IsSecondFound labels first found =
    MatchOption found ((second : ℕ) → IsPassedOver labels first second) (IsSecond labels first)

-- the state with a number and the number of its first edge, or none if the body does not define it
abbrev pub IsRowFound : Description → ℕ → Option StateRow → Type 0
IsRowFound a number found =
    MatchOption found (labels_at a number ≡ [])
    (λ row. (row.state.now ≡ state_at a number) × (row.before ≡ edges_before a.defined number))
