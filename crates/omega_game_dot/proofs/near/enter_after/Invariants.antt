-- `enter_after`: what is after the places before this one is entered.
use Rattle.std.proofs.Common.{[], take}
use Rattle.omega_game_dot.specs.private.Entering.{AreEntered, IsAfter}
use Rattle.omega_game_dot.proofs.near.enter_after.Given as goal

abbrev pub invariant-loop-place : goal.invariant-loop-place
invariant-loop-place l = AreEntered (IsAfter l.game (take l.place-index l.front)) l.initial.drawn.items [] l.drawn.items l.next.items
