-- `places_of`: the places of the nodes with the identifiers before this one.
use Rattle.std.proofs.Common.{take}
use Rattle.omega_answers_walk.specs.Walk.{AreNamed}
use Rattle.omega_answers_walk.proofs.places.places_of.Given as goal

abbrev pub invariant-loop-identifier : goal.invariant-loop-identifier
invariant-loop-identifier l = AreNamed l.game (take l.identifier-index l.identifiers) l.places.items
