-- `least_entered`: the least state that the edges before this one enter.
use Rattle.std.proofs.Common.{ℕ, ◌<◌, ◌≤◌, take}
use Rattle.omega_answers_game.specs.private.Groups.{IsEntered}
use Rattle.omega_answers_game.proofs.leaders.least_entered.Given as goal

abbrev pub invariant-loop-edge : goal.invariant-loop-edge
invariant-loop-edge l = record {
  entered : IsEntered l.graph l.group l.least;
  least : (other : ℕ) → IsEntered l.graph (take l.edge-index l.group) other → l.least ≤ other;
  inside : l.least < l.graph.states;
}
