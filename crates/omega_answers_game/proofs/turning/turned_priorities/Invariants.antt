-- `turned_priorities`: the priorities of the places before this one are turned.
use Rattle.std.proofs.Common.{◌≡◌, map, take}
use Rattle.omega_game_values.specs.Game.{priorities}
use Rattle.omega_answers_game.specs.Turning.{turned_priority}
use Rattle.omega_answers_game.proofs.turning.turned_priorities.Given as goal

abbrev pub invariant-loop-place : goal.invariant-loop-place
invariant-loop-place l =
    l.turned.items ≡ map (turned_priority (priorities l.game)) (take l.place (priorities l.game))
