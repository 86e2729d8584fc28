-- Results and refusals of the private functions of the complement.
use Rattle.std.specs.Prelude.{◌↔◌, ℕ, Bool, false, IsTrue, List}
use Rattle.std.specs.List.{AllZip, range_with_len}
use Rattle.omega_text.specs.Cases.{never, or_memory, or_task}
use Rattle.omega_text.specs.declared.refusal.Refusal.{Refusal}
use Rattle.omega_hoa_label.specs.Label.{LabelTree}
use Rattle.omega_hoa_automaton.specs.Automaton.{Description}
use Rattle.omega_hoa_automaton.specs.declared.state.State.{State}
use Rattle.omega_hoa_syntax.specs.declared.raw_automaton.RawAutomaton.{RawAutomaton}
use Rattle.omega_hoa_syntax.specs.declared.raw_state.RawState.{RawState}
use Rattle.omega_hoa_edges.specs.Determinism.{AreExclusiveBelow}
use Rattle.omega_lang_complement.specs.Complement.{AreFittingBelow}
use Rattle.omega_lang_complement.specs.Judged.{AreFitting}
use Rattle.omega_hoa_edges.specs.AutomatonLabels.{is_full_at, labels_at, labels_of}
use Rattle.omega_hoa_edges.specs.Labels.{is_full}
use Rattle.omega_lang_complement.specs.Refusing.{IsFirstFault, IsStateFault}
use Rattle.omega_hoa_automaton.specs.Faults.{BreaksLimit}
use Rattle.omega_lang_complement.specs.Written.{IsTurnedAt, SomeLacksLetter}
use Rattle.omega_hoa_edges.specs.declared.state_labels.StateLabels.{StateLabels}
use Rattle.omega_hoa_edges.specs.Fitting.{IsLarge}

-- the refusal of a state; `full` says whether it has an edge for each valuation
abbrev pub IsStateRefusal : Bool → List LabelTree → ℕ → Refusal → Type 0
IsStateRefusal full labels number = or_task (IsStateFault full labels number) (or_memory never)

-- the labels of a state fit the limits, over `count` propositions
abbrev pub AreFittingOf : ℕ → State → Type 0
AreFittingOf count state = AreFitting (is_full count state) (labels_of count state)

-- the refusal of a state over `count` propositions
abbrev pub IsRefusalOf : ℕ → State → Refusal → Type 0
IsRefusalOf count state = IsStateRefusal (is_full count state) (labels_of count state) state.number

-- the refusal of the state with a number
abbrev pub IsRefusalAt : Description → ℕ → Refusal → Type 0
IsRefusalAt a number = IsStateRefusal (is_full_at a number) (labels_at a number) number

-- the refusal of a state that is judged, as it has no edge for some valuation
abbrev pub IsJudgingRefusal : StateLabels → Refusal → Type 0
IsJudgingRefusal state = IsStateRefusal false state.labels.now state.number

-- the states below `count` have an edge for each letter, and `lacks` says whether one of them lacked a letter
pub record AreTurned (a : Description) (count : ℕ) (states : List RawState)
    (lacks : Bool) : Type 0 where
  pub turned : AllZip (λ number. IsTurnedAt a number) (range_with_len 0 count) states
  pub apart : AreExclusiveBelow a count
  pub fitting : AreFittingBelow a count
  pub lacking : IsTrue lacks ↔ SomeLacksLetter a count

-- the refusal of the states
abbrev pub AreRefused : Description → Refusal → Type 0
AreRefused a = or_task (IsFirstFault a) (or_memory never)

-- the written complement breaks a limit of automata
abbrev pub IsUnformed : RawAutomaton → Refusal → Type 0
IsUnformed raw = IsLarge (BreaksLimit raw)
