-- `read_aliases`: what is read of the tokens that are left leads to what is read of all.
use Rattle.std.proofs.Common.{◌≡◌, length}
use Rattle.omega_hoa_diagnostics.specs.private.AliasReading.{run}
use Rattle.omega_hoa_diagnostics.proofs.aliases.read_aliases.Given as goal

abbrev pub invariant-loop-token : goal.invariant-loop-token
invariant-loop-token l = run l.reading l.tokens.0 ≡ run l.initial.reading l.initial.tokens.0

abbrev pub decreases-loop-token : goal.decreases-loop-token
decreases-loop-token l = length l.tokens.0
