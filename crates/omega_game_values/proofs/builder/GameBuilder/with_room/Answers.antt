-- `GameBuilder::with_room`: no specification, and room for so many.
use Rattle.std.proofs.Common.{refl}
use Rattle.omega_game_values.specs.private.layout.Columns.{specs_of}
use Rattle.omega_game_values.proofs.building.Collecting.{AreCollected-none}
use Rattle.omega_game_values.proofs.builder.GameBuilder.with_room.Goals as goal

pub invariant_of-result : goal.invariant_of-result
invariant_of-result c = rw (c.in_ok-ids.ensures.items, c.in_ok-priorities.ensures.items, c.in_ok-owners.ensures.items, c.in_ok-successors.ensures, c.new.ensures) AreCollected-none

pub returns-clause-empty : goal.returns-clause-empty
unfolding specs_of
returns-clause-empty c = rw c.in_ok-ids.ensures.items refl
