-- The refusal of the emptiness game: the first that applies of `TooManyNodes`, `NotParity`, `UniversalBranch` and
-- `TooManyPropositions`, or want of memory.
use Rattle.std.specs.Prelude.{◌≡◌, ◌⊎◌, ℕ, ◌+◌, ◌*◌, ◌<◌, ◌≤◌, true, false}
use Rattle.omega_text.specs.Cases.{never, or_game, or_memory, or_task}
use Rattle.omega_text.specs.declared.refusal.Refusal.{Refusal}
use Rattle.omega_text.specs.declared.refusal.game.GameFault.TheVariants.{TooManyNodes}
use Rattle.omega_text.specs.declared.refusal.task.TaskFault.{TaskFault}
use Rattle.omega_text.specs.declared.refusal.task.TaskFault.TheVariants.{BadSolution, Budget, Controllable}
use Rattle.omega_text.specs.declared.refusal.task.TaskFault.TheVariants.{NotDeterministic, NotParity}
use Rattle.omega_text.specs.declared.refusal.task.TaskFault.TheVariants.{TooLarge, TooManyPropositions}
use Rattle.omega_text.specs.declared.refusal.task.TaskFault.TheVariants.{TooWide, UniversalBranch}
use Rattle.omega_text.specs.declared.refusal.task.TaskFault.TheVariants.{Unjudged, UnknownNode}
use Rattle.omega_hoa_acceptance.specs.declared.kind.AccKind.{AccKind}
use Rattle.omega_hoa_automaton.specs.Automaton.{Description}
use Rattle.omega_game_values.specs.Limits.{most_nodes}
use Rattle.omega_empty.specs.Counters.{counters}
use Rattle.omega_hoa_automaton.specs.AcceptanceKind.{HasKind}
use Rattle.omega_hoa_automaton.specs.Branching.{has_universal_branching}
use Rattle.omega_empty.specs.EmptinessGame.{span}
use Rattle.omega_lang_runs.specs.Judging.{HasNarrowLabels, HasWideLabel}

-- the automaton has no acceptance kind whose emptiness is decided
abbrev pub IsUndecided : Description → Type 0
IsUndecided a = (kind : AccKind) → HasKind a kind → ⊥

-- the automaton has an acceptance kind whose emptiness is decided
abbrev pub IsDecided : Description → Type 0
IsDecided a = (kind : AccKind) × HasKind a kind

-- the number of counters that an automaton needs: that of its kind, or one if it has no kind
abbrev pub NeedsCounters : Description → ℕ → Type 0
NeedsCounters a count = ((kind : AccKind) × HasKind a kind × (count ≡ counters kind))
    ⊎ (IsUndecided a × (count ≡ 1))

-- `TooManyNodes`: the identifiers, the sink's with them, are more than a game may have nodes
abbrev pub IsTooLarge : Description → Type 0
IsTooLarge a = (count : ℕ) × NeedsCounters a count × (most_nodes < count * span a + 1)

-- the identifiers are no more than a game may have nodes
abbrev pub IsSmallEnough : Description → Type 0
IsSmallEnough a = (count : ℕ) × NeedsCounters a count × (count * span a + 1 ≤ most_nodes)

-- none of the refusals applies: the automaton has an emptiness game
pub record IsGiven (a : Description) : Type 0 where
  pub fits : IsSmallEnough a
  pub decided : IsDecided a
  pub plain : has_universal_branching a ≡ false
  pub narrow : HasNarrowLabels a

-- this task fault applies, and none that comes before it
abbrev pub IsTaskFault : Description → TaskFault → Type 0
IsTaskFault a NotParity = IsSmallEnough a × IsUndecided a
IsTaskFault a UniversalBranch = IsSmallEnough a × IsDecided a × (has_universal_branching a ≡ true)
IsTaskFault a TooManyPropositions =
    IsSmallEnough a × IsDecided a × (has_universal_branching a ≡ false) × HasWideLabel a
IsTaskFault a TooWide = ⊥
IsTaskFault a Budget = ⊥
IsTaskFault a BadSolution = ⊥
IsTaskFault a UnknownNode = ⊥
IsTaskFault a Controllable = ⊥
IsTaskFault a Unjudged = ⊥
IsTaskFault a TooLarge = ⊥
IsTaskFault a (NotDeterministic state) = ⊥

-- the refusal of the emptiness game
abbrev pub IsGameRefusal : Description → Refusal → Type 0
IsGameRefusal a = or_game (λ fault. (fault ≡ TooManyNodes) × IsTooLarge a)
    (or_task (IsTaskFault a) (or_memory never))
