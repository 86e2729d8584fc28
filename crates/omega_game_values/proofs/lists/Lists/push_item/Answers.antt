-- `Lists::push_item`: adds an item to the last list.
use Rattle.std.proofs.Common.{◌<◌, length, arith, ap}
use Rattle.std.proofs.lemmas.List.{length_push}
use Rattle.omega_text.proofs.JoinedLists.{length-lists_of, AreStarts-grow, lists_of-push_item}
use Rattle.omega_game_values.proofs.lists.Lists.push_item.Given.{Over}
use Rattle.omega_game_values.proofs.lists.Lists.push_item.Goals as goal

-- there is a list
some : (g : Over) (c : goal.In_ok-push g) → 0 < length c.self.inside.starts.items
some g c = omega (arith, c.requires, ap length c.self.view_is, length-lists_of c.self.inside.starts.items c.self.inside.items.items)

pub invariant_of-self-2 : goal.invariant_of-self-2
invariant_of-self-2 g c =
    rw (c.in_ok-push.ensures.items, length_push)
    (AreStarts-grow c.self.inside.starts.items (length c.self.inside.items.items) 1 (some g c) c.self.invariant)

pub returns-clause-ok : goal.returns-clause-ok
returns-clause-ok g c =
    rw (← c.self.view_is, c.in_ok-push.ensures.items)
    (lists_of-push_item c.self.inside.starts.items c.self.inside.items.items c.args.item (some g c) c.self.invariant)
