-- Strategies of exact solutions and of exact answers win, and choose where they win.
use Rattle.std.proofs.Common.{◌≡◌, ◌≢◌, ℕ, ◌<◌, inl, inr, Bool, false, true, List, [], ◌∷◌, length, map, Option, Some, None, slice_get, Result, Ok, Err, sym, refl, subst, arith}
use Rattle.std.specs.Prelude.{IfErr, IsOkUnless, IsSome}
use Rattle.std.proofs.lemmas.List.{length-map}
use Rattle.std.proofs.lemmas.List.FromFn.{length-map-range_with_len}
use Rattle.std.proofs.lemmas.List.Sorted.{length_permutation}
use Rattle.omega_text.specs.declared.refusal.Refusal.{Refusal}
use Rattle.omega_text.specs.declared.refusal.Refusal.TheVariants.{Automaton, Circuit, Game, Io, Memory, Task, Text}
use Rattle.omega_game_values.specs.Building.{specified}
use Rattle.omega_text.specs.declared.refusal.task.TaskFault.TheVariants.{BadSolution, Budget, Controllable, NotDeterministic, NotParity, TooLarge, TooManyPropositions, TooWide, UniversalBranch, Unjudged, UnknownNode}
use Rattle.omega_game_values.specs.Game.{IsGame, Node, priorities}
use Rattle.omega_game_values.specs.Laws.{ChoicesAreEntries}
use Rattle.omega_game_values.specs.Solution.{IsExactSolution, choices_of, winner_at}
use Rattle.omega_game_values.specs.Winning.{InRegion, choice_at}
use Rattle.omega_game_values.specs.declared.player.Player.{Player}
use Rattle.omega_game_values.specs.declared.player.Player.TheVariants.{One, Zero}
use Rattle.omega_game_values.specs.declared.solution.Solution.{Solution}
use Rattle.omega_game_region_laws.specs.Laws.{RegionsCover}
use Rattle.omega_solve.specs.Headline.{IsExact}
use Rattle.omega_measure.specs.Table.{is_too_wide}
use Rattle.omega_solve.specs.budget.Within.{GoesOnAfter, IsSolvingRefusal}
use Rattle.omega_solve.specs.budget.Observing.{ReportsSolving}
use Rattle.omega_solve.specs.declared.budget.found.Found.{Found}
use Rattle.omega_solve.specs.declared.budget.observing.Progress.{Progress}
use Rattle.omega_solve.proofs.within_budget.Observed.{made_refused}
use Rattle.omega_synth_rounds.specs.Extracting.{IsWinningFrom}
use Rattle.omega_synth_rounds.specs.RoundsGame.{FitsAGame, IsRoundsGame, node_count, node_for, table}
use Rattle.omega_synth_rounds.specs.declared.rounds.Rounds.{Rounds}
use Rattle.omega_solve.specs.Turns.{IsNarrow}
use Rattle.omega_synth_realize.specs.Solving.{AreLifted, IsLiftingFault, IsLiftingRefusal, IsBudgetShort, IsOutcomeRefusal, IsWidthRefusal}
use Rattle.omega_synth_realize.specs.declared.outcome.Outcome.{Outcome}

-- the game has a node for each place
pub game_count : (rounds : Rounds) (game : List Node) → IsRoundsGame rounds game → length game ≡ node_count rounds
game_count rounds game made =
    omega (
      arith,
      length_permutation (table rounds) (map (specified game) game) made.rearranged,
      length-map game (specified game),
      length-map-range_with_len (node_for rounds) 0 (node_count rounds),
    )

some_of : (o : Option ℕ) → IsSome o → (u : ℕ) × (o ≡ Some u)
some_of None some = absurd (cc)
some_of (Some u) some = (u, refl)

-- want of memory is one of the refusals
pub memory_refused : {X : Type 0} (r : Result X Refusal) (Is : Refusal → Type 0) → Is Memory → IsOkUnless r Memory → IfErr r Is
memory_refused (Ok x) Is memory unless = tt
memory_refused (Err refusal) Is memory unless = subst Is (sym unless) memory

-- a game that is too wide for neither player
pub by_player : (game : List Node) → is_too_wide Zero (priorities game) ≡ false → is_too_wide One (priorities game) ≡ false → IsNarrow game
by_player game zero one Zero = zero
by_player game zero one One = one

-- a fault of lifting for a player is a fault of lifting, if the player is lifted for when it is decided
pub player_refused : (e : Refusal) (game : List Node) (player : Player) (start budget : ℕ) → IsNarrow game
    → (GoesOnAfter game player budget → IsBudgetShort game start budget) → IsSolvingRefusal game player budget e → IsLiftingRefusal game start budget e
player_refused (Text fault) game player start budget narrow spent refused = absurd refused
player_refused (Game fault) game player start budget narrow spent refused = absurd refused
player_refused (Circuit fault) game player start budget narrow spent refused = absurd refused
player_refused (Automaton fault) game player start budget narrow spent refused = absurd refused
player_refused (Task TooWide) game player start budget narrow spent refused = (player, refused)
player_refused (Task Budget) game player start budget narrow spent refused = (narrow, spent refused.1)
player_refused (Task NotParity) game player start budget narrow spent refused = refused
player_refused (Task UniversalBranch) game player start budget narrow spent refused = refused
player_refused (Task TooManyPropositions) game player start budget narrow spent refused = refused
player_refused (Task BadSolution) game player start budget narrow spent refused = refused
player_refused (Task UnknownNode) game player start budget narrow spent refused = refused
player_refused (Task TooLarge) game player start budget narrow spent refused = refused
player_refused (Task Controllable) game player start budget narrow spent refused = refused
player_refused (Task Unjudged) game player start budget narrow spent refused = refused
player_refused (Task (NotDeterministic state)) game player start budget narrow spent refused = refused
player_refused Memory game player start budget narrow spent refused = refused
player_refused Io game player start budget narrow spent refused = absurd refused

-- and of the rounds
pub lifting_refused : (r : Result Outcome Refusal) (rounds : Rounds) (game : List Node) (start budget : ℕ) → FitsAGame rounds → IsRoundsGame rounds game
    → IfErr r (IsLiftingRefusal game start budget) → IfErr r (IsOutcomeRefusal rounds start budget)
lifting_refused (Ok found) rounds game start budget fits made refused = tt
lifting_refused (Err (Text fault)) rounds game start budget fits made refused = absurd refused
lifting_refused (Err (Game fault)) rounds game start budget fits made refused = absurd refused
lifting_refused (Err (Circuit fault)) rounds game start budget fits made refused = absurd refused
lifting_refused (Err (Automaton fault)) rounds game start budget fits made refused = absurd refused
lifting_refused (Err (Task fault)) rounds game start budget fits made refused = record { fits = fits; game = game; game_is = made; lifting = refused }
lifting_refused (Err Memory) rounds game start budget fits made refused = refused
lifting_refused (Err Io) rounds game start budget fits made refused = absurd refused

-- so is that of a game that is too wide
pub wide_refused : (e : Refusal) (rounds : Rounds) (game : List Node) (start budget : ℕ) → FitsAGame rounds → IsRoundsGame rounds game
    → IsWidthRefusal game e → IsOutcomeRefusal rounds start budget e
wide_refused (Text fault) rounds game start budget fits made refused = absurd refused
wide_refused (Game fault) rounds game start budget fits made refused = absurd refused
wide_refused (Circuit fault) rounds game start budget fits made refused = absurd refused
wide_refused (Automaton fault) rounds game start budget fits made refused = absurd refused
wide_refused (Task fault) rounds game start budget fits made refused =
    record { fits = fits; game = game; game_is = made; lifting = subst (IsLiftingFault game start budget) (sym refused.0) refused.1 }
wide_refused Memory rounds game start budget fits made refused = absurd refused
wide_refused Io rounds game start budget fits made refused = absurd refused

-- runs that were made stay so, whatever refuses later but the budget
pub lifted_refused : (refusal : Refusal) → refusal ≢ Task Budget → (players : List Player) → AreLifted None players → AreLifted (Some refusal) players
lifted_refused refusal other players (inl made) = inl (made_refused (Zero ∷ []) players refusal other made)
lifted_refused refusal other players (inr made) = inr (made_refused (Zero ∷ One ∷ []) players refusal other made)

-- reports of solving a game are those of solving the same game
pub reported_for : {L : Type 0} (nodes others : List Node) → nodes ≡ others → (player : Player) (tells : Progress → L → L → Type 0)
    (every budget : ℕ) (result : Result Found Refusal) (before after : L) → ReportsSolving tells every nodes player budget result before after
    → ReportsSolving tells every others player budget result before after
reported_for nodes others same player tells every budget result before after reported =
    subst (λ (n : List Node). ReportsSolving tells every n player budget result before after) same reported

-- in an exact solution
pub solution_wins : ChoicesAreEntries → (game : List Node) (solution : Solution) → IsExactSolution game solution
    → (player : Player) (v : ℕ) → v < length game → winner_at solution v ≡ player
    → IsWinningFrom game player (choices_of solution player) v
solution_wins entries game solution exact player v below won = record {
  strategy = exact.fits.strategies player;
  wins = exact.wins player v below won;
  chosen = λ w w_below own wins.
      (let region : InRegion game player w =
      record { node = w_below; choices = choices_of solution player; strategy = exact.fits.strategies player; wins = wins } in
      let winner : winner_at solution w ≡ player = (exact.regions player w w_below).1 region in
      let some = some_of (choice_at (choices_of solution player) w) ((exact.fits.chosen player w w_below).1 (own, winner)) in
      (some.0, (entries (choices_of solution player) w some.0).1 some.1));
}

-- in an exact answer
pub answer_wins : (game : List Node) (player : Player) (won : List Bool) (choices : List (Option ℕ)) → IsExact game player won choices
    → (v : ℕ) → InRegion game player v → IsWinningFrom game player choices v
answer_wins game player won choices exact v region = record {
  strategy = exact.strategy;
  wins = exact.wins v region;
  chosen = λ w below own wins.
      exact.chosen w ((exact.exactly w).1 (record { node = below; choices = choices; strategy = exact.strategy; wins = wins })) own;
}

-- what player 0 does not win, player 1 wins
pub other_wins : RegionsCover → (game : List Node) (won : List Bool) (choices : List (Option ℕ)) → IsGame game → IsExact game Zero won choices
    → (v : ℕ) → v < length game → ((slice_get won v ≡ Some true) → ⊥) → InRegion game One v
other_wins cover game won choices is_game exact v below lost = elim (cover game v is_game below) [
  | inl zero ↦ absurd (lost ((exact.exactly v).1 zero))
  | inr one ↦ one
]
