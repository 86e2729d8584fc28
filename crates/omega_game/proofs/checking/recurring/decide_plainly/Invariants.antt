-- What holds in the loop of `decide_plainly`: decides whether no marked place of a priority that
-- loses for the player recurs.
use Rattle.std.proofs.Common.{ℕ, ◌<◌, IsTrue}
use Rattle.omega_game_values.specs.Game.{priority_at}
use Rattle.omega_game_values.specs.Player.{loses}
use Rattle.omega_game_reaching.specs.Reaching.{mark_at}
use Rattle.omega_game.specs.private.checking.Recurring.{Recurs}
use Rattle.omega_game.proofs.checking.recurring.decide_plainly.Given as goal

abbrev pub invariant-loop-place : goal.invariant-loop-place
invariant-loop-place l =
    (v : ℕ) → v < l.place → IsTrue (mark_at l.marks v) → IsTrue (loses l.player (priority_at l.game v)) → ¬ Recurs l.game l.choices v
