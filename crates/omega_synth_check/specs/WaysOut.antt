-- Ways out: edges of an automaton that are told by their numbers. The environment has no letter in a state of which
-- each letter has an answer by one of them. In a complement they are the edges that enter its sink.
use Rattle.std.specs.Prelude.{◌≡◌, ℕ, ◌==◌, ◌&&◌, Bool, true, false, not, List, Option, None, Some}
use Rattle.std.specs.Prelude.{slice_index_or}
use Rattle.omega_text.specs.Cases.{never, or_memory, or_task}
use Rattle.omega_text.specs.declared.refusal.Refusal.{Refusal}
use Rattle.omega_text.specs.declared.refusal.task.TaskFault.{TaskFault}
use Rattle.omega_text.specs.declared.refusal.task.TaskFault.TheVariants.{TooLarge, TooManyPropositions}
use Rattle.omega_hoa_automaton.specs.Automaton.{BodyEdge, Description, edge_at}
use Rattle.omega_lang_runs.specs.Lasso.{IsStart, Leads}
use Rattle.omega_synth_controllers.specs.Controllers.{Answers}
use Rattle.omega_synth_game.specs.Making.{AllLeave, IsAskingFault, IsLeaving}
use Rattle.omega_synth_check.specs.Judging.{IsReached}
use Rattle.omega_synth_check.specs.Refusing.{HasManyStates, ReachesHardEdge}
use Rattle.omega_synth_check.specs.declared.without_letter.StateWithoutLetter.{StateWithoutLetter}

-- whether an edge enters the sink from another state
abbrev pub enters_sink : (sink : ℕ) → Option BodyEdge → Bool
enters_sink sink None = false
enters_sink sink (Some edge) =
    (slice_index_or edge.edge.targets 0 0 == sink) && not (edge.source.number == sink)

-- whether the edge of a complement with a number enters the sink, the state with this number, from another state
abbrev pub is_way_out : (complement : Description) → (sink : ℕ) → ℕ → Bool
is_way_out complement sink number = enters_sink sink (edge_at complement number)

-- whether the flag of a number is set
abbrev pub flag : List Bool → ℕ → Bool
flag flags number = slice_index_or flags number false

-- the edge with the number is a way out of the state
pub record IsWayOut (a : Description) (out : ℕ → Bool) (state number : ℕ) : Type 0 where
  pub leaves : IsLeaving a state number
  pub is_out : out number ≡ true

-- the environment has a letter in the state that no way out of it answers
abbrev pub HasLetterIn : Description → (controlled : List ℕ) → (out : ℕ → Bool) → ℕ → Type 0
HasLetterIn a controlled out state = (letter : ℕ → Bool)
    × ((number : ℕ) → IsWayOut a out state number → ¬ Answers a controlled number letter)

-- some way out of the state answers the letter
abbrev pub HasWayOut : Description → (controlled : List ℕ) → (out : ℕ → Bool) → ℕ
    → (ℕ → Bool) → Type 0
HasWayOut a controlled out state given =
    (number : ℕ) × IsWayOut a out state number × Answers a controlled number given

-- the state has this way out, and one for each letter
pub record IsBlocked (a : Description) (controlled : List ℕ) (out : ℕ → Bool)
    (state number : ℕ) : Type 0 where
  pub way : IsWayOut a out state number
  pub each : (given : ℕ → Bool) → HasWayOut a controlled out state given

-- the numbers of edges lead to a state from a start
abbrev pub IsStemTo : Description → ℕ → List ℕ → Type 0
IsStemTo a state stem = (start : ℕ) × IsStart a start × Leads a start stem state

-- what a search of an automaton finds, where the ways out are edges of another one, which has the same states: a state
-- in which the environment has no letter, with a stem to it, or that it has one in each state that is reached
abbrev pub IsStateFound : (a other : Description) → (controlled : List ℕ) → (out : ℕ → Bool)
    → Option StateWithoutLetter → Type 0
IsStateFound a other controlled out None =
    (state : ℕ) → IsReached a state → HasLetterIn other controlled out state
IsStateFound a other controlled out (Some found) =
    IsBlocked other controlled out found.state found.number × IsStemTo a found.state found.stem

-- the fault of such a search: too many states, a label that is left undecided at a state that is reached, or the
-- letters of the ways out of such a state
pub data IsWayFault (a other : Description) (controlled : List ℕ) : TaskFault → Type 0 where
  many_reached : HasManyStates a → IsWayFault a other controlled TooLarge
  hard_reached : ReachesHardEdge a → IsWayFault a other controlled TooManyPropositions
  ways_not_asked : (fault : TaskFault) (state : ℕ) (numbers : List ℕ) → IsReached a state
      → AllLeave other state numbers → IsAskingFault other controlled numbers fault
      → IsWayFault a other controlled fault

-- its refusal
abbrev pub IsWayRefusal : (a other : Description) → List ℕ → Refusal → Type 0
IsWayRefusal a other controlled = or_task (IsWayFault a other controlled) (or_memory never)
