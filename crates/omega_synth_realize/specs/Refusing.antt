-- The refusal of the question whether an automaton is realizable, in the order of the steps. These are universal
-- branching, a second start, two edges at one letter, no parity kind, labels that are not judged, what hinders the
-- making of the rounds, a game that is too large, and what hinders solving it. Want of memory may come at each step.
use Rattle.std.specs.Prelude.{◌≡◌, ◌⊎◌, ℕ, ◌≤◌, false, true, List, [], length}
use Rattle.omega_text.specs.Cases.{never, or_game, or_memory, or_task}
use Rattle.omega_text.specs.declared.refusal.Refusal.{Refusal}
use Rattle.omega_text.specs.declared.refusal.game.GameFault.{GameFault}
use Rattle.omega_text.specs.declared.refusal.task.TaskFault.{TaskFault}
use Rattle.omega_text.specs.declared.refusal.task.TaskFault.TheVariants.{NotDeterministic}
use Rattle.omega_text.specs.declared.refusal.task.TaskFault.TheVariants.{NotParity, UniversalBranch}
use Rattle.omega_hoa_parity_kind.specs.declared.kind.ParityKind.{ParityKind}
use Rattle.omega_hoa_acceptance.specs.declared.kind.AccKind.TheVariants as kinds
use Rattle.omega_hoa_automaton.specs.AcceptanceKind.{HasKind}
use Rattle.omega_hoa_automaton.specs.Automaton.{Description}
use Rattle.omega_hoa_automaton.specs.Branching.{has_universal_branching}
use Rattle.omega_lang_runs.specs.Lasso.{IsStart}
use Rattle.omega_hoa_edges.specs.Determinism.{AreExclusiveBelow, IsDeterministic}
use Rattle.omega_hoa_edges.specs.Refusing.{IsFirstClash, IsFirstUndecided, IsSecondStart}
use Rattle.omega_synth_rounds.specs.declared.rounds.Rounds.{Rounds}
use Rattle.omega_synth_realize.specs.Solving.{IsRoundsLiftingFault}
use Rattle.omega_synth_game.specs.Laws.{IsParted}
use Rattle.omega_synth_game.specs.Making.{IsMakingFault}
use Rattle.omega_synth_game.specs.Sizes.{IsGameSmall, IsSizeFault}

-- no start and no edge branches universally, and there is at most one start
pub record IsSingle (a : Description) : Type 0 where
  pub plain : has_universal_branching a ≡ false
  pub one_start : length a.starts ≤ 1

-- the acceptance is one of the parity kinds, by its name and its formula
abbrev pub HasParityKind : Description → Type 0
HasParityKind a = (kind : ParityKind) × HasKind a (kinds.Parity kind)

-- no two edges of a state can be taken at one letter, or from some state on that is not judged
abbrev pub HasNoClashBeforeUndecided : Description → Type 0
HasNoClashBeforeUndecided a =
    AreExclusiveBelow a a.states ⊎ ((fault : TaskFault) × IsFirstUndecided a fault)

-- the fault of an automaton of which the question is not asked
pub data IsJudgingFault (a : Description) : TaskFault → Type 0 where
  branches : has_universal_branching a ≡ true → IsJudgingFault a UniversalBranch
  second_start : (state : ℕ) → has_universal_branching a ≡ false → IsSecondStart a state
      → IsJudgingFault a (NotDeterministic state)
  clash : (state : ℕ) → IsSingle a → IsFirstClash a state → IsJudgingFault a (NotDeterministic state)
  no_kind : IsSingle a → HasNoClashBeforeUndecided a → (HasParityKind a → ⊥) → IsJudgingFault a NotParity
  undecided : (fault : TaskFault) → IsSingle a → IsFirstUndecided a fault → HasParityKind a
      → IsJudgingFault a fault

-- the refusal of such an automaton: such a fault, or want of memory
abbrev pub IsPosingRefusal : Description → Refusal → Type 0
IsPosingRefusal a = or_task (IsJudgingFault a) (or_memory never)

-- the question can be asked: the automaton is deterministic, and its acceptance is of a parity kind
pub record IsJudgeable (a : Description) : Type 0 where
  pub deterministic : IsDeterministic a
  pub parity : HasParityKind a

-- in addition there is a start
pub record IsPosed (a : Description) : Type 0 where
  pub judgeable : IsJudgeable a
  pub begins : (start : ℕ) × IsStart a start

-- this holds of rounds of the automaton
pub record OfRounds (a : Description) (controlled : List ℕ) (holds : Rounds → Type 0) : Type 0 where
  pub rounds : Rounds
  pub letters : List (List ℕ)
  pub start : ℕ
  pub parted : IsParted a controlled rounds letters start
  pub is : holds rounds

-- a fault of the task by which there are no rounds
pub data IsPartingFault (a : Description) (controlled : List ℕ) : TaskFault → Type 0 where
  unjudged : (fault : TaskFault) → IsJudgingFault a fault → IsPartingFault a controlled fault
  unmade : (fault : TaskFault) → IsPosed a → IsMakingFault a controlled fault
      → IsPartingFault a controlled fault

-- the game is too large, by the classes of letters in the states
abbrev pub IsLargeFault : Description → List ℕ → GameFault → Type 0
IsLargeFault a controlled fault = IsPosed a × IsSizeFault a controlled fault

-- there is no start, and so no game; or the game is not too large
abbrev pub HasNoLargeGame : Description → List ℕ → Type 0
HasNoLargeGame a controlled = (a.starts ≡ []) ⊎ IsGameSmall a controlled

-- the refusal by which there are no rounds
abbrev pub IsPartingRefusal : Description → List ℕ → Refusal → Type 0
IsPartingRefusal a controlled =
    or_game (IsLargeFault a controlled) (or_task (IsPartingFault a controlled) (or_memory never))

-- lifting in the game of rounds of the automaton, from its start, within the budget has this fault
pub record IsLiftingFaultOf (a : Description) (controlled : List ℕ) (budget : ℕ)
    (fault : TaskFault) : Type 0 where
  pub rounds : Rounds
  pub letters : List (List ℕ)
  pub start : ℕ
  pub parted : IsParted a controlled rounds letters start
  pub is : IsRoundsLiftingFault rounds start budget fault

-- the refusal of rounds that are not decided
abbrev pub IsOutcomeRefusalOf : Description → List ℕ → ℕ → Refusal → Type 0
IsOutcomeRefusalOf a controlled budget = or_game (IsLargeFault a controlled)
    (or_task (IsLiftingFaultOf a controlled budget) (or_memory never))

-- a fault of the task: there are no rounds, or they are not solved within the budget
abbrev pub IsRealizingFault : Description → List ℕ → ℕ → TaskFault → Type 0
IsRealizingFault a controlled budget fault =
    IsPartingFault a controlled fault ⊎ IsLiftingFaultOf a controlled budget fault

-- the refusal: the game is too large, or such a fault, or want of memory
abbrev pub IsRealizabilityRefusal : Description → List ℕ → ℕ → Refusal → Type 0
IsRealizabilityRefusal a controlled budget = or_game (IsLargeFault a controlled)
    (or_task (IsRealizingFault a controlled budget) (or_memory never))
