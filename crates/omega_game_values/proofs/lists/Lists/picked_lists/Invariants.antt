-- What holds in the loop of `Lists::picked`: the lists at these indices, in their order,
-- an empty one where there is none.
use Rattle.std.proofs.Common.{◌≡◌, [], map, take, get_or}
use Rattle.omega_game_values.proofs.lists.Lists.picked_lists.Given as goal

abbrev pub invariant-loop-index : goal.invariant-loop-index
invariant-loop-index g l = l.lists ≡ map (λ i. get_or l.self i []) (take l.index-index l.order)
