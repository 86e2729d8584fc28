-- `places_of`: no node has the identifier, or one place more is named.
use Rattle.std.proofs.Common.{◌+◌, arith, get_or, sym, subst, take}
use Rattle.omega_answers_game.proofs.Identifiers.{identified-nowhere, identified-place}
use Rattle.omega_answers_walk.specs.Walk.{AreNamed}
use Rattle.omega_answers_walk.proofs.Naming.{none_named, one_named}
use Rattle.omega_answers_walk.proofs.places.places_of.Goals as goal

pub returns-in-None-clause-none : goal.returns-in-None-clause-none
returns-in-None-clause-none c =
    let i = c.loop-identifier.identifier-index in
    let ids = c.args.identifiers.now in
    none_named c.args.game.now ids i (omega arith) (identified-nowhere c.args.game.now (get_or ids i 0) (sym c.in-None.ensures))

pub loop-identifier-preserved : goal.loop-identifier-preserved
loop-identifier-preserved c =
    let i = c.loop-identifier.identifier-index in
    let ids = c.args.identifiers.now in
    let more = one_named c.args.game.now ids c.loop-identifier.places.items i c.in-Some.place (omega arith) c.loop-identifier.invariant
    (identified-place c.args.game.now (get_or ids i 0) c.in-Some.place (sym c.in-Some.ensures)) in
    subst (AreNamed c.args.game.now (take (i + 1) ids)) (sym c.in_ok-push-in-Some.ensures.items) more
