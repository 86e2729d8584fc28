-- What holds in the loop of `GameBuilder::of`: the builder of these specifications.
use Rattle.std.proofs.Common.{◌≡◌, take}
use Rattle.omega_game_values.proofs.builder.GameBuilder.of.Given as goal

abbrev pub invariant-loop-spec : goal.invariant-loop-spec
invariant-loop-spec l = l.builder ≡ take l.spec-index l.specs.items
