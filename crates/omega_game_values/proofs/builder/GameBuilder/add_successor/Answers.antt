-- `GameBuilder::add_successor`: adds a successor to the last specification.
use Rattle.std.proofs.Common.{◌<◌, length, arith, ap}
use Rattle.omega_game_values.proofs.building.Collecting.{length-specs_of, specs_of-successor, AreCollected-successor}
use Rattle.omega_game_values.proofs.builder.GameBuilder.add_successor.Goals as goal

pub push_item-requires : goal.push_item-requires
push_item-requires c = omega (arith, ap length c.self.view_is, length-specs_of, c.requires.begun, c.self.invariant.even.successors_even)

some : (c : goal.In_ok-push_item) → 0 < length c.self.inside.ids.items
some c = omega (arith, ap length c.self.view_is, length-specs_of, c.requires.begun)

pub invariant_of-self-2 : goal.invariant_of-self-2
invariant_of-self-2 c = rw c.in_ok-push_item.ensures.ok
    (AreCollected-successor c.self.inside.ids.items c.self.inside.priorities.items c.self.inside.owners.items c.self.inside.successors c.self.inside.quoted c.args.successor c.requires.successor c.self.invariant (some c))

pub returns-clause-ok : goal.returns-clause-ok
returns-clause-ok c = rw (← c.self.view_is, c.in_ok-push_item.ensures.ok)
    (specs_of-successor c.self.inside.ids.items c.self.inside.priorities.items c.self.inside.owners.items c.self.inside.successors c.self.inside.quoted c.args.successor c.self.invariant.even (some c))
