-- `GameBuilder::new`: no specification, which takes no memory.
use Rattle.std.proofs.Common.{refl}
use Rattle.omega_game_values.specs.private.layout.Columns.{specs_of}
use Rattle.omega_game_values.proofs.building.Collecting.{AreCollected-none}
use Rattle.omega_game_values.proofs.builder.GameBuilder.new.Goals as goal

pub invariant_of-result : goal.invariant_of-result
invariant_of-result c = rw (c.new.ensures.items, c.new-2.ensures.items, c.new-3.ensures.items, c.new-4.ensures, c.new-5.ensures) AreCollected-none

pub returns : goal.returns
unfolding specs_of
returns c = rw c.new.ensures.items refl
