-- `GameBuilder::add`: adds a specification without a name.
use Rattle.std.proofs.Common.{◌≡◌, [], ◌∷◌, ◌++◌, rules}
use Rattle.omega_game_values.proofs.building.Collecting.{specs_of-push, AreCollected-push}
use Rattle.omega_game_values.proofs.builder.GameBuilder.add.Goals as goal

ids_are : (c : goal.After-push-3) → c.push.new.self.items ≡ c.self.inside.ids.items ++ c.args.id ∷ []
ids_are c = search rules

ranks_are : (c : goal.After-push-3) → c.push-2.new.self.items ≡ c.self.inside.priorities.items ++ c.args.priority ∷ []
ranks_are c = search rules

owners_are : (c : goal.After-push-3) → c.push-3.new.self.items ≡ c.self.inside.owners.items ++ c.args.owner ∷ []
owners_are c = search rules

pub invariant_of-self-2 : goal.invariant_of-self-2
invariant_of-self-2 c = rw (ids_are c, ranks_are c, owners_are c, c.in_ok-push_list.ensures.ok)
    (AreCollected-push c.self.inside.ids.items c.self.inside.priorities.items c.self.inside.owners.items c.self.inside.successors c.self.inside.quoted c.args.id c.args.priority c.args.owner c.args.successors.now c.self.invariant c.requires)

pub returns-clause-ok : goal.returns-clause-ok
returns-clause-ok c = rw (← c.self.view_is, ids_are c, ranks_are c, owners_are c, c.in_ok-push_list.ensures.ok)
    (specs_of-push c.self.inside.ids.items c.self.inside.priorities.items c.self.inside.owners.items c.self.inside.successors c.self.inside.quoted c.args.id c.args.priority c.args.owner c.args.successors.now c.self.invariant.even)
