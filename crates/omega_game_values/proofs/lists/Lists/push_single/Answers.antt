-- `Lists::push_single`: adds a list of one item after the others.
use Rattle.std.proofs.Common.{◌≡◌, [], ◌∷◌, ◌++◌, length, rules}
use Rattle.std.proofs.lemmas.List.{length_push}
use Rattle.omega_text.proofs.JoinedLists.{AreStarts-push, lists_of-push_list}
use Rattle.omega_game_values.proofs.lists.Lists.push_single.Given.{Over}
use Rattle.omega_game_values.proofs.lists.Lists.push_single.Goals as goal

-- the starts after the list was added
starts_are : (g : Over) (c : goal.After-push-2 g) → c.push-2.new.self.items ≡ c.self.inside.starts.items ++ length c.self.inside.items.items ∷ []
starts_are g c = search rules

pub invariant_of-self-2 : goal.invariant_of-self-2
invariant_of-self-2 g c =
    rw (starts_are g c, c.in_ok-push.ensures.items, length_push)
    (AreStarts-push c.self.inside.starts.items (length c.self.inside.items.items) 1 c.self.invariant)

pub returns-clause-ok : goal.returns-clause-ok
returns-clause-ok g c =
    rw (← c.self.view_is, starts_are g c, c.in_ok-push.ensures.items)
    (lists_of-push_list c.self.inside.starts.items c.self.inside.items.items (c.args.item ∷ []) c.self.invariant)
