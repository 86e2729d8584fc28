-- What holds in the loop of `meet`: marks the places of priority at most `most` that were not marked,
-- and meets them from an origin.
use Rattle.std.proofs.Common.{take}
use Rattle.omega_game.specs.private.refuting.Ways.{AreMet}
use Rattle.omega_game.proofs.refuting.breadth.meet.Given as goal

abbrev pub invariant-loop-place : goal.invariant-loop-place
invariant-loop-place l =
    AreMet l.game l.most (take l.place-index l.places) l.origin l.initial.marks.items l.initial.met.items l.initial.origins.items l.marks.items l.met.items l.origins.items
