-- `first_missing`: the first pair is among those that are left.
use Rattle.std.proofs.Common.{◌≡◌, drop}
use Rattle.omega_pg_diagnostics.specs.GameCauses.{first_missing}
use Rattle.omega_pg_diagnostics.proofs.game_causes.first_missing.Given as goal

abbrev pub invariant-loop-pair : goal.invariant-loop-pair
invariant-loop-pair l = first_missing l.nodes.keys (drop l.pair-index l.pairs) ≡ first_missing l.nodes.keys l.pairs
