-- What was found within a budget is a right answer, and which refusals of its parts are those of solving.
use Rattle.std.proofs.Common.{◌≡◌, ℕ, ◌+◌, ◌<◌, length, Bool, true, false, List, Option, Some, None, Result, is_some, ap, subst, arith}
use Rattle.std.specs.List.{Contains, slice_get}
use Rattle.std.proofs.lemmas.Option.{get_or_from_slice_get, slice_get_within}
use Rattle.omega_text.specs.declared.refusal.Refusal.{Refusal}
use Rattle.omega_text.specs.declared.refusal.Refusal.TheVariants.{Automaton, Circuit, Game, Io, Memory, Task, Text}
use Rattle.omega_text.specs.declared.refusal.task.TaskFault.TheVariants.{BadSolution, Budget, Controllable, NotDeterministic, NotParity, TooLarge, TooManyPropositions, TooWide, UniversalBranch, Unjudged, UnknownNode}
use Rattle.omega_game_values.specs.declared.player.Player.{Player}
use Rattle.omega_game_values.specs.Game.{Node, priorities}
use Rattle.omega_measure.specs.Table.{is_too_wide}
use Rattle.omega_solve.specs.Headline.{IsExact}
use Rattle.omega_solve.specs.budget.Observing.{ReportsSolving}
use Rattle.omega_solve.specs.budget.Within.{IsFound, IsSolvingRefusal}
use Rattle.omega_solve.specs.declared.budget.found.Found.{Found}
use Rattle.omega_solve.specs.declared.budget.observing.Progress.{Progress}
use Rattle.omega_answers_game.specs.Part.{IsPartFrom}
use Rattle.omega_answers_game.specs.solve.AnswerText.{IsAnswerOf, WinsExactly, answer_text}
use Rattle.omega_answers_game.specs.declared.solve.asked.Asked.{Asked}
use Rattle.omega_answers_game.specs.solve.Refusing.{IsSolveGameRefusal, IsSolvedFor, IsTooWide}
use Rattle.omega_answers_game.specs.private.steps.PartRefusal.{IsPartRefusal}
use Rattle.omega_answers_game.specs.private.steps.Places.{places_from}
use Rattle.omega_answers_game.proofs.Places.{Contains-places_from, IsStrictlyIncreasing-places_from, places_from-true}

-- ---- the places won

-- the places won are those whose flag is true
pub Contains-won : (won : List Bool) (v : ℕ) → Contains (places_from 0 won) v → slice_get won v ≡ Some true
Contains-won won v there =
    let found = places_from-true 0 won v there in
    let place : found.0 ≡ v = omega (arith, found.1) in
    subst (λ (i : ℕ). slice_get won i ≡ Some true) place found.2

pub won-Contains : (won : List Bool) (v : ℕ) → slice_get won v ≡ Some true → Contains (places_from 0 won) v
won-Contains won v e =
    let place : 0 + v ≡ v = omega arith in
    subst (Contains (places_from 0 won)) place (Contains-places_from 0 won v e)

-- an exact answer by place wins exactly at the places won
wins_exactly : (nodes : List Node) (player : Player) (won : List Bool) (choices : List (Option ℕ)) → IsExact nodes player won choices
    → WinsExactly nodes player (places_from 0 won) choices
wins_exactly nodes player won choices exact = record {
  rising = IsStrictlyIncreasing-places_from 0 won;
  exactly = λ v. (
    λ there. (exact.exactly v).0 (Contains-won won v there),
    λ region. won-Contains won v ((exact.exactly v).1 region),
  );
  strategy = exact.strategy;
  chosen = λ v there owned.
      let found = exact.chosen v (Contains-won won v there) owned in
      ap is_some (get_or_from_slice_get choices v (Some found.0) None found.1);
  printed = λ v w chooses. won-Contains won v (exact.only v w chooses);
  wins = λ v there. exact.wins v ((exact.exactly v).0 (Contains-won won v there));
}

-- the text of what was found is a right answer
pub right_answer : (nodes : List Node) (player : Player) (budget : ℕ) (found : Found) (output : List ℕ)
    → is_too_wide player (priorities nodes) ≡ false → IsFound nodes player budget found
    → output ≡ answer_text player found.lifts nodes (places_from 0 found.won.items) found.choice.items
    → IsAnswerOf nodes player budget found.lifts output
right_answer nodes player budget found output narrow is_found written = record {
  narrow = narrow;
  won = places_from 0 found.won.items;
  choices = found.choice.items;
  written = written;
  ended = is_found.ended;
  won_exactly = wins_exactly nodes player found.won.items found.choice.items is_found.exact;
}

-- ---- refusals

-- what refuses solving for a player refuses the game: it is too wide for this player, or else for no player for whom it
-- is solved
pub refused-solving : (nodes : List Node) (asked : Asked) (player : Player) (budget : ℕ) (refusal : Refusal)
    → (is_too_wide player (priorities nodes) ≡ false → (other : Player) → IsSolvedFor asked other → is_too_wide other (priorities nodes) ≡ false)
    → IsSolvedFor asked player → IsSolvingRefusal nodes player budget refusal → IsSolveGameRefusal nodes asked None budget refusal
refused-solving nodes asked player budget (Task TooWide) narrow solved_for wide = record { player = player; solved_for = solved_for; wide = wide }
refused-solving nodes asked player budget (Task Budget) narrow solved_for (fits, unfinished) =
    record { narrow = narrow fits; player = player; solved_for = solved_for; unfinished = unfinished }
refused-solving nodes asked player budget (Task BadSolution) narrow solved_for h = absurd h
refused-solving nodes asked player budget (Task NotParity) narrow solved_for h = absurd h
refused-solving nodes asked player budget (Task TooManyPropositions) narrow solved_for h = absurd h
refused-solving nodes asked player budget (Task UniversalBranch) narrow solved_for h = absurd h
refused-solving nodes asked player budget (Task UnknownNode) narrow solved_for h = absurd h
refused-solving nodes asked player budget (Task Controllable) narrow solved_for h = absurd h
refused-solving nodes asked player budget (Task Unjudged) narrow solved_for h = absurd h
refused-solving nodes asked player budget (Task TooLarge) narrow solved_for h = absurd h
refused-solving nodes asked player budget (Task (NotDeterministic state)) narrow solved_for h = absurd h
refused-solving nodes asked player budget Memory narrow solved_for h = tt
refused-solving nodes asked player budget (Text fault) narrow solved_for h = h
refused-solving nodes asked player budget (Game fault) narrow solved_for h = h
refused-solving nodes asked player budget (Automaton fault) narrow solved_for h = h
refused-solving nodes asked player budget (Circuit fault) narrow solved_for h = h
refused-solving nodes asked player budget Io narrow solved_for h = h

-- what refuses taking the part of a node refuses the solving from it
pub refused-unknown : (game : List Node) (asked : Asked) (identifier budget : ℕ) (refusal : Refusal)
    → IsPartRefusal game identifier refusal → IsSolveGameRefusal game asked (Some identifier) budget refusal
refused-unknown game asked identifier budget (Task fault) (e, unknown) = rw e unknown
refused-unknown game asked identifier budget Memory h = tt
refused-unknown game asked identifier budget (Text fault) h = h
refused-unknown game asked identifier budget (Game fault) h = h
refused-unknown game asked identifier budget (Automaton fault) h = h
refused-unknown game asked identifier budget (Circuit fault) h = h
refused-unknown game asked identifier budget Io h = h

-- what refuses the part of a node refuses the solving from it
pub refused-part : (game : List Node) (asked : Asked) (identifier budget : ℕ) (part : List Node) (refusal : Refusal)
    → IsPartFrom game identifier part → IsSolveGameRefusal part asked None budget refusal
    → IsSolveGameRefusal game asked (Some identifier) budget refusal
refused-part game asked identifier budget part (Task UnknownNode) part_of h = absurd h
refused-part game asked identifier budget part (Task Controllable) part_of h = absurd h
refused-part game asked identifier budget part (Task Unjudged) part_of h = absurd h
refused-part game asked identifier budget part (Task TooWide) part_of h = record { part = part; part_of = part_of; fault_there = h }
refused-part game asked identifier budget part (Task Budget) part_of h = record { part = part; part_of = part_of; fault_there = h }
refused-part game asked identifier budget part (Task BadSolution) part_of h = absurd h
refused-part game asked identifier budget part (Task NotParity) part_of h = absurd h
refused-part game asked identifier budget part (Task UniversalBranch) part_of h = absurd h
refused-part game asked identifier budget part (Task TooManyPropositions) part_of h = absurd h
refused-part game asked identifier budget part (Task TooLarge) part_of h = absurd h
refused-part game asked identifier budget part (Task (NotDeterministic state)) part_of h = absurd h
refused-part game asked identifier budget part Memory part_of h = tt
refused-part game asked identifier budget part (Text fault) part_of h = h
refused-part game asked identifier budget part (Game fault) part_of h = h
refused-part game asked identifier budget part (Automaton fault) part_of h = h
refused-part game asked identifier budget part (Circuit fault) part_of h = h
refused-part game asked identifier budget part Io part_of h = h

-- a game that is too wide refuses the solving
pub refused-wide : (nodes : List Node) (asked : Asked) (budget : ℕ) (refusal : Refusal) → (refusal ≡ Task TooWide) × IsTooWide nodes asked
    → IsSolveGameRefusal nodes asked None budget refusal
refused-wide nodes asked budget refusal (e, wide) = rw e wide

-- ---- a game under another name

module _ (nodes others : List Node) (same : nodes ≡ others) (player : Player) where
  pub narrow_for : is_too_wide player (priorities nodes) ≡ false → is_too_wide player (priorities others) ≡ false
  narrow_for narrow = subst (λ (n : List Node). is_too_wide player (priorities n) ≡ false) same narrow

  pub solving_for : (budget : ℕ) (refusal : Refusal) → IsSolvingRefusal nodes player budget refusal → IsSolvingRefusal others player budget refusal
  solving_for budget refusal refused = subst (λ (n : List Node). IsSolvingRefusal n player budget refusal) same refused

  pub found_for : (budget : ℕ) (found : Found) → IsFound nodes player budget found → IsFound others player budget found
  found_for budget found is = subst (λ (n : List Node). IsFound n player budget found) same is

  pub reported_for : {L : Type 0} (tells : Progress → L → L → Type 0) (every budget : ℕ) (result : Result Found Refusal) (before after : L)
      → ReportsSolving tells every nodes player budget result before after → ReportsSolving tells every others player budget result before after
  reported_for tells every budget result before after reported = subst (λ (n : List Node). ReportsSolving tells every n player budget result before after) same reported

-- a place won has a node
pub won_within : (nodes : List Node) (player : Player) (budget : ℕ) (found : Found) → IsFound nodes player budget found → (v : ℕ)
    → slice_get found.won.items v ≡ Some true → v < length nodes
won_within nodes player budget found is v at = omega (arith, slice_get_within found.won.items v true at, is.exact.entries)
