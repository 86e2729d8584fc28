-- `Lists::replace_last`: replaces the last list by an item and those after it.
use Rattle.std.proofs.Common.{◌≡◌, ℕ, ◌<◌, ◌-◌, ◌∷◌, length, List, get_or, take, arith, ap, ◌∙◌, length-append}
use Rattle.omega_text.proofs.JoinedLists.{length-lists_of, AreStarts-last, lists_of-replace_last, start_within}
use Rattle.std.proofs.lemmas.List.{get_or_default, length-take-le}
use Rattle.omega_game_values.proofs.lists.Lists+u8.replace_last.Goals as goal

some : (c : goal.After-len) → 0 < length c.self.inside.starts.items
some c = omega (arith, length-lists_of c.self.inside.starts.items c.self.inside.items.items, ap length c.self.view_is, c.requires)

some_last : (c : goal.After-replace_end-arg-1) → 0 < length c.self.inside.starts.items
some_last c = omega (arith, length-lists_of c.self.inside.starts.items c.self.inside.items.items, ap length c.self.view_is, c.requires)

some_new : (c : goal.In_ok-replace_end) → 0 < length c.self.inside.starts.items
some_new c = omega (arith, length-lists_of c.self.inside.starts.items c.self.inside.items.items, ap length c.self.view_is, c.requires)

pub overflow_sub-len : goal.overflow_sub-len
overflow_sub-len c = omega (arith, c.len.ensures, some c)

pub index-requires : goal.index-requires
index-requires c = omega (arith, c.len.ensures, some c)

-- where the last list starts
start_is : (starts : List ℕ) (n size start : ℕ) → n ≡ length starts → 0 < length starts → start ≡ get_or starts (n - 1) start → start ≡ get_or starts (length starts - 1) size
start_is starts n size start e some read = read ∙ get_or_default starts (n - 1) start size (omega arith) ∙ ap (λ k. get_or starts (k - 1) size) e

pub replace_end-requires : goal.replace_end-requires
replace_end-requires c =
    omega (
      arith,
      start_is c.self.inside.starts.items c.len.result (length c.self.inside.items.items) c.index.result.now (omega (arith, c.len.ensures)) (some_last c) c.index.ensures,
      start_within c.self.inside.starts.items (length c.self.inside.items.items) (length c.self.inside.starts.items - 1) c.self.invariant,
    )

new_start : (c : goal.In_ok-replace_end) → c.index.result.now ≡ get_or c.self.inside.starts.items (length c.self.inside.starts.items - 1) (length c.self.inside.items.items)
new_start c = start_is c.self.inside.starts.items c.len.result (length c.self.inside.items.items) c.index.result.now (omega (arith, c.len.ensures)) (some_new c) c.index.ensures

front : (c : goal.In_ok-replace_end) → length (take c.index.result.now c.self.inside.items.items) ≡ c.index.result.now
front c = length-take-le c.index.result.now c.self.inside.items.items
    (omega (arith, new_start c, start_within c.self.inside.starts.items (length c.self.inside.items.items) (length c.self.inside.starts.items - 1) c.self.invariant))

pub invariant_of-self-2 : goal.invariant_of-self-2
invariant_of-self-2 c = rw (c.in_ok-replace_end.ensures.ok, length-append, front c)
    (AreStarts-last c.self.inside.starts.items (length c.self.inside.items.items) c.index.result.now (length (c.args.first ∷ c.args.rest.now)) (some_new c) c.self.invariant (new_start c))

pub returns-clause-ok : goal.returns-clause-ok
returns-clause-ok c = rw (← c.self.view_is, c.in_ok-replace_end.ensures.ok)
    (lists_of-replace_last c.self.inside.starts.items c.self.inside.items.items (c.args.first ∷ c.args.rest.now) c.index.result.now (some_new c) c.self.invariant (new_start c))
