-- `GameBuilder::add_node`: adds a specification with one successor and no name.
use Rattle.std.proofs.Common.{◌≡◌, ◌≤◌, [], ◌∷◌, ◌++◌, None, arith, rules}
use Rattle.std.proofs.lemmas.List.Elements.{All-cons, All-nil}
use Rattle.omega_text.specs.Limits.{most_number}
use Rattle.omega_game_values.specs.Building.{IsWellFormed}
use Rattle.omega_game_values.proofs.building.Collecting.{specs_of-push, AreCollected-push}
use Rattle.omega_game_values.proofs.builder.GameBuilder.add_node.Goals as goal

ids_are : (c : goal.After-push-3) → c.push.new.self.items ≡ c.self.inside.ids.items ++ c.args.id ∷ []
ids_are c = search rules

ranks_are : (c : goal.After-push-3) → c.push-2.new.self.items ≡ c.self.inside.priorities.items ++ c.args.priority ∷ []
ranks_are c = search rules

owners_are : (c : goal.After-push-3) → c.push-3.new.self.items ≡ c.self.inside.owners.items ++ c.args.owner ∷ []
owners_are c = search rules

-- the specification is well formed
well : (c : goal.After-push-3) → IsWellFormed (record { id = c.args.id; priority = c.args.priority; owner = c.args.owner; successors = c.args.first ∷ []; name = None })
well c = record {
  id = c.requires.id;
  priority = c.requires.priority;
  successors = All-cons (λ w. w ≤ most_number) c.args.first [] c.requires.first (All-nil (λ w. w ≤ most_number));
  continued = omega arith;
  name = tt;
}

pub invariant_of-self-2 : goal.invariant_of-self-2
invariant_of-self-2 c = rw (ids_are c, ranks_are c, owners_are c, c.in_ok-push_single.ensures.ok)
    (AreCollected-push c.self.inside.ids.items c.self.inside.priorities.items c.self.inside.owners.items c.self.inside.successors c.self.inside.quoted c.args.id c.args.priority c.args.owner (c.args.first ∷ []) c.self.invariant (well c))

pub returns-clause-ok : goal.returns-clause-ok
returns-clause-ok c = rw (← c.self.view_is, ids_are c, ranks_are c, owners_are c, c.in_ok-push_single.ensures.ok)
    (specs_of-push c.self.inside.ids.items c.self.inside.priorities.items c.self.inside.owners.items c.self.inside.successors c.self.inside.quoted c.args.id c.args.priority c.args.owner (c.args.first ∷ []) c.self.invariant.even)
