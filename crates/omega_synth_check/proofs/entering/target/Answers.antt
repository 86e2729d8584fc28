-- the edge is at its place
use Rattle.std.proofs.Common.{List, length, refl}
use Rattle.std.proofs.lemmas.Option.{slice_get_read}
use Rattle.omega_lang_runs.specs.declared.place.EdgePlace.{EdgePlace}
use Rattle.omega_synth_check.proofs.entering.target.Goals as goal

pub target_at-requires-clause-stands : goal.target_at-requires-clause-stands
target_at-requires-clause-stands c =
    let places : List EdgePlace = c.args.search.now.leaving.now.places.items in
    c.requires.search.leaving.places.each c.args.number c.index-place.result.now
    (slice_get_read places (length places) c.args.number c.index-place.result.now refl c.requires.number c.index-place.ensures)
