-- Why an automaton is not found to be deterministic: `NotDeterministic` by a second start, or by the first state of
-- which two edges can be taken at one letter; `TooManyPropositions` or `TooLarge` if that is not judged of a state.
use Rattle.std.specs.Prelude.{◌≡◌, ◌⊎◌, ℕ, ◌<◌, false, List, slice_get, slice_index_or, Some}
use Rattle.omega_text.specs.Cases.{never, or_memory, or_task}
use Rattle.omega_text.specs.declared.refusal.Refusal.{Refusal}
use Rattle.omega_text.specs.declared.refusal.task.TaskFault.{TaskFault}
use Rattle.omega_text.specs.declared.refusal.task.TaskFault.TheVariants.{NotDeterministic, TooLarge}
use Rattle.omega_text.specs.declared.refusal.task.TaskFault.TheVariants.{TooManyPropositions}
use Rattle.omega_hoa_label.specs.Label.{LabelTree}
use Rattle.omega_hoa_automaton.specs.Automaton.{Description}
use Rattle.omega_hoa_edges.specs.Determinism.{AreExclusiveBelow}
use Rattle.omega_hoa_edges.specs.Judged.{HasLargeBoth, HasLargeEdge, HasUndecidedBoth}
use Rattle.omega_hoa_edges.specs.AutomatonLabels.{is_full_at, labels_at}
use Rattle.omega_hoa_edges.specs.Letters.{HasClash}

-- the state of the second start
abbrev pub IsSecondStart : Description → ℕ → Type 0
IsSecondStart a state =
    (start : List ℕ) × (slice_get a.starts 1 ≡ Some start) × (state ≡ slice_index_or start 0 0)

-- a second start is refused, with its state
abbrev pub IsStartRefusal : Description → Refusal → Type 0
IsStartRefusal a =
    or_task (λ fault. (state : ℕ) × (fault ≡ NotDeterministic state) × IsSecondStart a state) never

-- the fault by which it is not judged whether two edges can be taken at one letter
abbrev pub IsUndecidedFault : List LabelTree → TaskFault → Type 0
IsUndecidedFault labels fault =
    ((fault ≡ TooManyPropositions) × HasUndecidedBoth labels)
    ⊎ ((fault ≡ TooLarge) × (HasLargeEdge labels ⊎ HasLargeBoth labels))

-- the fault of judging the edges of a state: two can be taken at one letter, or that is not judged
abbrev pub IsClashFault : List LabelTree → ℕ → TaskFault → Type 0
IsClashFault labels number fault =
    ((fault ≡ NotDeterministic number) × HasClash labels) ⊎ IsUndecidedFault labels fault

-- the refusal of judging the edges of a state
abbrev pub IsClashRefusal : List LabelTree → ℕ → Refusal → Type 0
IsClashRefusal labels number = or_task (IsClashFault labels number) (or_memory never)

-- a state of which two edges can be taken at one letter; no state with a lower number is so
pub record IsFirstClash (a : Description) (number : ℕ) : Type 0 where
  pub below : number < a.states
  pub apart : AreExclusiveBelow a number
  pub clash : HasClash (labels_at a number)

-- it is not judged whether two edges of some state can be taken at one letter; of no state with a lower number they can
pub record IsFirstUndecided (a : Description) (fault : TaskFault) : Type 0 where
  pub number : ℕ
  pub below : number < a.states
  pub apart : AreExclusiveBelow a number
  pub partial : is_full_at a number ≡ false
  pub undecided : IsUndecidedFault (labels_at a number) fault

-- the fault of judging all states
abbrev pub IsStatesFault : Description → TaskFault → Type 0
IsStatesFault a fault = ((number : ℕ) × (fault ≡ NotDeterministic number) × IsFirstClash a number)
    ⊎ IsFirstUndecided a fault

-- the refusal of judging all states: such a fault, or want of memory
abbrev pub AreUnjudged : Description → Refusal → Type 0
AreUnjudged a = or_task (IsStatesFault a) (or_memory never)
