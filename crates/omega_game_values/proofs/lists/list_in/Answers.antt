-- `list_in`: the list at an index of those that lie one after the other.
use Rattle.std.proofs.Common.{◌≡◌, ◌+◌, ◌≤◌, length, get_or, rules, arith, refl}
use Rattle.std.proofs.lemmas.List.{get_or_default}
use Rattle.omega_text.specs.JoinedLists.{list_at}
use Rattle.omega_text.proofs.JoinedLists.{start_within}
use Rattle.omega_game_values.proofs.lists.list_in.Given.{Over}
use Rattle.omega_game_values.proofs.lists.list_in.Goals as goal

-- where the list starts, by either default
start_is : (g : Over) (c : goal.After-end_in-end g) → get_or c.args.starts.now c.args.index 0 ≡ get_or c.args.starts.now c.args.index (length c.args.items.now)
start_is g c = get_or_default c.args.starts.now c.args.index 0 (length c.args.items.now) c.requires.within

-- it starts at or before its end
in_order : (g : Over) (c : goal.After-end_in-end g) → get_or c.args.starts.now c.args.index 0 ≤ c.end_in-end.result
in_order g c = omega (arith, start_is g c, c.end_in-end.ensures, c.requires.starts.rising c.args.index (c.args.index + 1) (omega arith))

-- it ends within the vector
within : (g : Over) (c : goal.After-end_in-end g) → c.end_in-end.result ≤ length c.args.items.now
within g c = omega (arith, c.end_in-end.ensures, start_within c.args.starts.now (length c.args.items.now) (c.args.index + 1) c.requires.starts)

pub offset_bounds-items-start : goal.offset_bounds-items-start
offset_bounds-items-start g c = omega (arith, in_order g c, within g c)

pub slice_bounds-result-count : goal.slice_bounds-result-count
slice_bounds-result-count g c = in_order g c

pub slice_bounds-result-end : goal.slice_bounds-result-end
slice_bounds-result-end g c = let a : get_or c.args.starts.now c.args.index 0 ≤ c.end_in-end.result = in_order g c in let b : c.end_in-end.result ≤ length c.args.items.now = within g c in search rules

pub returns : goal.returns
unfolding list_at
returns g c = rw (get_or_default c.args.starts.now c.args.index 0 (length c.args.items.now) c.requires.within, c.end_in-end.ensures) refl
