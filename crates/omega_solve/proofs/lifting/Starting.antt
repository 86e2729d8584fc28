-- What a solver keeps holds at its start.
use Rattle.std.proofs.Common.{◌≡◌, ℕ, Bool, true, false, List, [], Option, length, refl, sym, ◌∙◌, arith}
use Rattle.std.proofs.lemmas.Bool.{false≢true}
use Rattle.std.proofs.lemmas.List.{length-replicate}
use Rattle.omega_game_values.specs.declared.player.Player.{Player}
use Rattle.omega_game_values.specs.Game.{Node, IsGame, IsWithinLimits, priorities}
use Rattle.omega_lift_laws.specs.Laws.{ZeroTablesAreTables}
use Rattle.omega_lift_schedules.proofs.Flags.{pending_all, waits_all}
use Rattle.omega_solve.specs.Solver.{SolverState, start_of}
use Rattle.omega_solve.specs.private.solving.Progress.{IsAnswered, IsSolving}
use Rattle.omega_solve.proofs.lifting.Edges.{edge_leaves}

-- what a solver keeps holds at its start
pub solving_start : (nodes : List Node) (player : Player) → ZeroTablesAreTables → IsGame nodes → IsWithinLimits nodes
    → IsSolving (start_of nodes player)
solving_start nodes player zero game limits = record {
  game = game;
  limits = limits;
  content = record { same_player = refl; same_priorities = refl; is_table = zero player (priorities nodes) };
  places = [];
  lifted = refl;
  counted = refl;
  few = omega arith;
  entries = length-replicate (length nodes) true;
  due = λ v due. pending_all (length nodes) v (edge_leaves nodes v due.1.value.successor due.1.value.listed);
  most = omega (arith, waits_all (length nodes));
  least = omega (arith, waits_all (length nodes));
  below = omega arith;
}

-- the buffers of a solver that is not done need only their entries
pub answered_open : (state : SolverState) (won : List Bool) (choices : List (Option ℕ)) → state.done ≡ false
    → length won ≡ length state.nodes → length choices ≡ length state.nodes → IsAnswered state won choices
answered_open state won choices goes_on won_entries choice_entries = record {
  won_entries = won_entries;
  choice_entries = choice_entries;
  idle = λ (done : state.done ≡ true). absurd (false≢true (sym goes_on ∙ done));
  places_won = λ (done : state.done ≡ true). absurd (false≢true (sym goes_on ∙ done));
  chosen = λ (done : state.done ≡ true). absurd (false≢true (sym goes_on ∙ done));
}
