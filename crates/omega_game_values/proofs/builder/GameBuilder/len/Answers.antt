-- `GameBuilder::len`: the number of specifications so far, all well formed.
use Rattle.std.proofs.Common.{length, arith, ap}
use Rattle.omega_game_values.proofs.building.Collecting.{length-specs_of}
use Rattle.omega_game_values.proofs.builder.GameBuilder.len.Goals as goal

pub returns-clause-count : goal.returns-clause-count
returns-clause-count c = omega (arith, c.len.ensures, length-specs_of, ap length c.self.view_is)
