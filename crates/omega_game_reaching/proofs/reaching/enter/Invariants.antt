-- What holds in the loop of `enter`: marks the places of priority at most `most`,
-- and stacks those that were not marked.
use Rattle.std.proofs.Common.{take}
use Rattle.omega_game_reaching.specs.private.Entering.{AreEntered}
use Rattle.omega_game_reaching.proofs.reaching.enter.Given as goal

abbrev pub invariant-loop-place : goal.invariant-loop-place
invariant-loop-place l =
    AreEntered l.game l.most (take l.place-index l.places) l.initial.marks.items l.initial.stack.items l.marks.items l.stack.items
