-- `first_greater`: the first number is among those that are left.
use Rattle.std.proofs.Common.{◌≡◌, drop, nat_lt}
use Rattle.std.specs.List.{find}
use Rattle.omega_pg_diagnostics.proofs.game_causes.first_greater.Given as goal

abbrev pub invariant-loop-id : goal.invariant-loop-id
invariant-loop-id l = find (nat_lt l.number) (drop l.id-index l.ids) ≡ find (nat_lt l.number) l.ids
