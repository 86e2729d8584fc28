-- `lead`: the edges before this one lead.
use Rattle.std.proofs.Common.{◌≡◌, ℕ, ◌<◌, length, take}
use Rattle.omega_answers_game.specs.private.Groups.{IsLed}
use Rattle.omega_answers_game.proofs.leaders.lead.Given as goal

abbrev pub invariant-loop-edge : goal.invariant-loop-edge
invariant-loop-edge l = record {
  count : length l.leaders.items ≡ length l.initial.leaders.items;
  led : (state : ℕ) → state < length l.initial.leaders.items
      → IsLed l.graph (take l.edge-index l.group) l.leader l.initial.leaders.items l.leaders.items state;
}
