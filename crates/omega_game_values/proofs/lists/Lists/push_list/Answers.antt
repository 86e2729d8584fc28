-- `Lists::push_list`: adds a list after the others.
use Rattle.std.proofs.Common.{◌≡◌, [], ◌∷◌, ◌++◌, length, length-append, rules}
use Rattle.omega_text.proofs.JoinedLists.{AreStarts-push, lists_of-push_list}
use Rattle.omega_game_values.proofs.lists.Lists.push_list.Given.{Over}
use Rattle.omega_game_values.proofs.lists.Lists.push_list.Goals as goal

-- the items after the list was added
items_are : (g : Over) (c : goal.Else-is_err g) → c.extend_from_slice.new.self.items ≡ c.self.inside.items.items ++ c.args.list.now
items_are g c = search rules

-- the starts after the list was added
starts_are : (g : Over) (c : goal.Else-is_err g) → c.push.new.self.items ≡ c.self.inside.starts.items ++ length c.self.inside.items.items ∷ []
starts_are g c = search rules

pub invariant_of-self-else-is_err : goal.invariant_of-self-else-is_err
invariant_of-self-else-is_err g c =
    rw (starts_are g c, items_are g c, length-append)
    (AreStarts-push c.self.inside.starts.items (length c.self.inside.items.items) (length c.args.list.now) c.self.invariant)

pub returns-clause-ok : goal.returns-clause-ok
returns-clause-ok g c =
    rw (← c.self.view_is, starts_are g c, items_are g c)
    (lists_of-push_list c.self.inside.starts.items c.self.inside.items.items c.args.list.now c.self.invariant)
