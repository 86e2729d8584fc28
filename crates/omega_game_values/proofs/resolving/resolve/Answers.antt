-- `resolve`: replaces each identifier by its place, and says whether each has one.
use Rattle.std.proofs.Common.{ℕ, List, arith}
use Rattle.omega_game_values.proofs.building.Resolutions.{resolved_more, defined_more}
use Rattle.omega_game_values.specs.private.layout.Columns.{identifiers_of}
use Rattle.omega_game_values.proofs.resolving.resolve.Goals as goal

pub loop-target-preserved : goal.loop-target-preserved
loop-target-preserved c =
    let ids : List ℕ = identifiers_of c.args.count c.args.listed.now.keys in (
      resolved_more ids c.loop-target.targets c.args.targets.now c.loop-target.target-index c.unwrap_or.result c.place_among-place.result c.loop-target-test.true (omega arith) c.loop-target.invariant.0 c.place_among-place.ensures c.unwrap_or.ensures,
      defined_more ids c.loop-target.targets c.args.targets.now c.loop-target.target-index c.place_among-place.result c.loop-target.defined c.is_some-defined.result c.loop-target-test.true c.loop-target.invariant.0 c.place_among-place.ensures c.is_some-defined.ensures c.loop-target.invariant.1,
    )
