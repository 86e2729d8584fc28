-- `extent_of`: the place is that of the identifier, or no node has it.
use Rattle.std.proofs.Common.{refl, sym}
use Rattle.omega_answers_game.proofs.Identifiers.{identified-nowhere, identified-place}
use Rattle.omega_answers_walk.proofs.extent.extent_of.Goals as goal

pub returns-in-Some-place_of-clause-asked : goal.returns-in-Some-place_of-clause-asked
returns-in-Some-place_of-clause-asked c =
    rw c.in-Some.is (
      c.in-Some-place_of.place,
      identified-place c.args.game.now c.in-Some.identifier c.in-Some-place_of.place (sym c.in-Some-place_of.ensures),
      refl,
    )

pub returns-in-None-clause-refused : goal.returns-in-None-clause-refused
returns-in-None-clause-refused c =
    rw c.in-Some.is (refl, identified-nowhere c.args.game.now c.in-Some.identifier (sym c.in-None.ensures))
