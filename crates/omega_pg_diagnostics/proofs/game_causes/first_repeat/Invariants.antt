-- `first_repeat`: the nodes are the identifiers so far, which differ from one another.
use Rattle.std.proofs.Common.{◌≡◌, nat_eq, take}
use Rattle.std.specs.List.{IsDistinct}
use Rattle.omega_pg_diagnostics.proofs.game_causes.first_repeat.Given as goal

abbrev pub invariant-loop-id : goal.invariant-loop-id
invariant-loop-id l = record {
  so_far : l.nodes.keys ≡ take l.id-index l.ids;
  different : IsDistinct nat_eq (take l.id-index l.ids);
}
