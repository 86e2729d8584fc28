-- Which automata are not judged: those with universal branching, those whose acceptance is not `all`, and those whose
-- letters or whose containment in the specification cannot be decided.
use Rattle.std.specs.Prelude.{◌≡◌, ◌⊎◌, ◌↔◌, ℕ, ◌<◌, true, false, List, Contains, Some, length, nat_eq}
use Rattle.std.specs.List.{IsDistinct}
use Rattle.omega_text.specs.Cases.{never, or_memory, or_task}
use Rattle.omega_text.specs.declared.refusal.Refusal.{Refusal}
use Rattle.omega_text.specs.declared.refusal.Refusal.TheVariants.{Memory, Task}
use Rattle.omega_text.specs.declared.refusal.task.TaskFault.{TaskFault}
use Rattle.omega_text.specs.declared.refusal.task.TaskFault.TheVariants.{NotParity, TooLarge}
use Rattle.omega_text.specs.declared.refusal.task.TaskFault.TheVariants.{TooManyPropositions, UniversalBranch}
use Rattle.omega_hoa_acceptance.specs.Acceptance.{constant}
use Rattle.omega_hoa_automaton.specs.Automaton.{BodyEdge, Description, edge_at}
use Rattle.omega_hoa_automaton.specs.Branching.{has_universal_branching}
use Rattle.omega_hoa_edges.specs.Limits.{most_states}
use Rattle.omega_lang_runs.specs.Judging.{IsHard}
use Rattle.omega_synth_game.specs.Making.{AllLeave, HaveFewInputs, IsAskingFault, IsLeaving}
use Rattle.omega_lang_inclusion.specs.Refusing.{AreComparable, IsContainmentRefusal}
use Rattle.omega_synth_check.specs.Judging.{IsLack, IsReached}
use Rattle.omega_synth_check.specs.declared.judgement.Lack.{Lack}

-- the acceptance is `all`: there are no sets, and the formula is `t`
abbrev pub AcceptsAll : Description → Type 0
AcceptsAll controller = (controller.sets ≡ 0) × (controller.acceptance ≡ constant true)

-- the automaton can be read as a controller
pub record IsReadable (controller : Description) : Type 0 where
  pub plain : has_universal_branching controller ≡ false
  pub all : AcceptsAll controller

-- the fault of an automaton that cannot be read as a controller
abbrev pub IsFormFault : Description → TaskFault → Type 0
IsFormFault controller fault =
    ((fault ≡ UniversalBranch) × (has_universal_branching controller ≡ true))
    ⊎ ((fault ≡ NotParity) × (has_universal_branching controller ≡ false) × ¬ AcceptsAll controller)

-- its refusal
abbrev pub IsFormRefusal : Description → Refusal → Type 0
IsFormRefusal controller = or_task (IsFormFault controller) never

-- it can, and no refusal of the complement applies to the specification
pub record AreJudged (specification controller : Description) : Type 0 where
  pub readable : IsReadable controller
  pub comparable : AreComparable controller specification

-- more different states are reached than the limit
pub record HasManyStates (controller : Description) : Type 0 where
  pub states : List ℕ
  pub distinct : IsDistinct nat_eq states
  pub reached : (state : ℕ) → Contains states state → IsReached controller state
  pub many : most_states < length states

-- the label of the edge with a number, or of the state that it leaves, may be given up undecided
pub record IsHardEdge (controller : Description) (number : ℕ) : Type 0 where
  pub edge : BodyEdge
  pub numbered : edge_at controller number ≡ Some edge
  pub hard : IsHard edge.source.label ⊎ IsHard edge.edge.label

-- an edge that leaves a state that is reached is such a one
pub record ReachesHardEdge (controller : Description) : Type 0 where
  pub state : ℕ
  pub number : ℕ
  pub reached : IsReached controller state
  pub leaving : IsLeaving controller state number
  pub hard : IsHardEdge controller number

-- the fault of the search for a letter that is not answered: too many states, a label that is left undecided at a state
-- that is reached, or the letters of such a state
pub data IsLetterFault (controller : Description) (controlled : List ℕ) : TaskFault → Type 0 where
  many_states : HasManyStates controller → IsLetterFault controller controlled TooLarge
  hard_label : ReachesHardEdge controller → IsLetterFault controller controlled TooManyPropositions
  not_asked : (fault : TaskFault) (state : ℕ) (numbers : List ℕ) → IsReached controller state
      → AllLeave controller state numbers → IsAskingFault controller controlled numbers fault
      → IsLetterFault controller controlled fault

-- the refusal of that search
abbrev pub IsLetterRefusal : Description → List ℕ → Refusal → Type 0
IsLetterRefusal controller controlled =
    or_task (IsLetterFault controller controlled) (or_memory never)

-- the labels of the edges that leave a state mention no more of the environment's propositions than the limit
pub record MentionsFew (controller : Description) (controlled : List ℕ) (state : ℕ) : Type 0 where
  pub numbers : List ℕ
  pub leave : (number : ℕ) → Contains numbers number ↔ IsLeaving controller state number
  pub few : HaveFewInputs controller controlled numbers

-- the search for a letter that is not answered came to its end: there is one, or else the states that are reached are
-- not too many, and their labels mention few propositions
abbrev pub IsLetterSearched : Description → List ℕ → Type 0
IsLetterSearched controller controlled = ((lack : Lack) × IsLack controller controlled lack)
    ⊎ ((HasManyStates controller → ⊥)
    × ((state : ℕ) → IsReached controller state → MentionsFew controller controlled state))

-- the automaton can be read as a controller, and its letters were searched to the end
pub record AreLettersJudged (controller : Description) (controlled : List ℕ) : Type 0 where
  pub readable : IsReadable controller
  pub searched : IsLetterSearched controller controlled

-- the refusal of the judge, in the order of its steps; memory can be wanting in each
pub data IsJudgeRefusal (specification controller : Description)
    (controlled : List ℕ) : Refusal → Type 0 where
  branches : has_universal_branching controller ≡ true
      → IsJudgeRefusal specification controller controlled (Task UniversalBranch)
  not_all : has_universal_branching controller ≡ false → ¬ AcceptsAll controller
      → IsJudgeRefusal specification controller controlled (Task NotParity)
  no_memory : IsJudgeRefusal specification controller controlled Memory
  not_searched : (refusal : Refusal) → IsReadable controller
      → IsLetterRefusal controller controlled refusal
      → IsJudgeRefusal specification controller controlled refusal
  not_contained : (refusal : Refusal) → AreLettersJudged controller controlled
      → IsContainmentRefusal controller specification refusal
      → IsJudgeRefusal specification controller controlled refusal
