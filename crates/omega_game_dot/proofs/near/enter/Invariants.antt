-- `enter`: the places before this one are entered.
use Rattle.std.proofs.Common.{Contains, take}
use Rattle.omega_game_dot.specs.private.Entering.{AreEntered}
use Rattle.omega_game_dot.proofs.near.enter.Given as goal

abbrev pub invariant-loop-place : goal.invariant-loop-place
invariant-loop-place l =
    AreEntered (Contains (take l.place-index l.places)) l.initial.drawn.items l.initial.next.items l.drawn.items l.next.items
