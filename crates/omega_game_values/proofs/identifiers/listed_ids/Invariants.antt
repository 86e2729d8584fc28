-- What holds in the loop of `listed_ids`: the identifiers to list, none where they are 0 to n - 1.
use Rattle.std.proofs.Common.{◌≡◌, take}
use Rattle.omega_game_values.proofs.identifiers.listed_ids.Given as goal

abbrev pub invariant-loop-id : goal.invariant-loop-id
invariant-loop-id l = l.listed.keys ≡ take l.id-index l.ids
