-- The promises of all runs of a solver, however the budget is dealt out to them.
use Rattle.std.specs.Prelude.{◌≡◌, ◌↔◌, ℕ, ◌+◌, ◌≤◌, Bool, true, false, Option}
use Rattle.std.specs.Prelude.{Some, List, [], ◌∷◌, length, slice_get, sum}
use Rattle.omega_game_values.specs.declared.player.Player.{Player}
use Rattle.omega_game_values.specs.Game.{Node, IsGame, owner_at, priorities}
use Rattle.omega_game_values.specs.Bound.{bound_of}
use Rattle.omega_game_values.specs.Winning.{Chooses, InRegion, IsStrategy, Wins}
use Rattle.omega_lift_laws.specs.Answer.{AreChoices, won_in}
use Rattle.omega_solve.specs.Solver.{SolverState, IsFinished, IsReached, HasLiftDue, LiftsWithin, start_of}

-- a call of `run`: the game and the player stay, and lifts are made within the budget. Either it is done and no lift is
-- due, or the whole budget was used up and a lift is due
pub record Runs (old : SolverState) (budget : ℕ) (new : SolverState) : Type 0 where
  pub same_nodes : new.nodes ≡ old.nodes
  pub same_player : new.player ≡ old.player
  pub lifted : LiftsWithin old budget new
  pub done : new.done ≡ true → IsFinished new
  pub spent : new.done ≡ false → (new.lifts ≡ old.lifts + budget) × HasLiftDue new

-- a budget is dealt out: calls of `run`, one with each of the budgets, lead from one state to another
abbrev pub DealsOut : SolverState → List ℕ → SolverState → Type 0
DealsOut old [] new = old ≡ new
DealsOut old (budget ∷ budgets) new =
    (next : SolverState) × Runs old budget next × DealsOut next budgets new

-- an answer, with one entry for each node, is exactly the nodes from which the player has a winning strategy. One
-- strategy wins from all of them, and it chooses exactly at those that the player owns
pub record IsExact (nodes : List Node) (player : Player) (won : List Bool)
    (choices : List (Option ℕ)) : Type 0 where
  pub entries : length won ≡ length nodes
  pub exactly : (v : ℕ) → (slice_get won v ≡ Some true) ↔ InRegion nodes player v
  pub strategy : IsStrategy nodes player choices
  pub chosen : (v : ℕ) → slice_get won v ≡ Some true → owner_at nodes v ≡ player
      → (w : ℕ) × Chooses choices v w
  pub only : (v w : ℕ) → Chooses choices v w → slice_get won v ≡ Some true
  pub wins : (v : ℕ) → InRegion nodes player v → Wins nodes player choices v

-- a solver for the game and the player, after these budgets were dealt out: the lifts are those of a lifting run from
-- the all-zero table, and at most the bound. Budgets that together reach the bound suffice, and a solver that is done
-- has an exact answer
pub record IsBoundedAndExact (nodes : List Node) (player : Player) (budgets : List ℕ)
    (solver : SolverState) : Type 0 where
  pub same_nodes : solver.nodes ≡ nodes
  pub same_player : solver.player ≡ player
  pub reached : IsReached solver
  pub bounded : solver.lifts ≤ bound_of player (priorities nodes)
  pub enough : bound_of player (priorities nodes) ≤ sum budgets → solver.done ≡ true
  pub exact : solver.done ≡ true → (choices : List (Option ℕ))
      → AreChoices nodes player solver.table.measures choices
      → IsExact nodes player (won_in solver.table.measures) choices

-- For each game of n nodes, each player, and each way to deal out the budget. At most n times the product of 1 + N_q
-- lifts are made, over the priorities q that lose for the player; N_q is the number of nodes of priority q. If the
-- budget suffices, the answer is exactly the nodes from which the player has a winning positional strategy, with one
-- strategy for all
abbrev pub Headline : Type 0
Headline = (nodes : List Node) (player : Player) (budgets : List ℕ) (solver : SolverState)
    → IsGame nodes → DealsOut (start_of nodes player) budgets solver
    → IsBoundedAndExact nodes player budgets solver
