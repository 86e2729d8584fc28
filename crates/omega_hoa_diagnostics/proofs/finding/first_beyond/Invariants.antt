-- `first_beyond`: the first number is among those that are left.
use Rattle.std.proofs.Common.{◌≡◌, drop}
use Rattle.omega_hoa_diagnostics.specs.Finding.{first_beyond}
use Rattle.omega_hoa_diagnostics.proofs.finding.first_beyond.Given as goal

abbrev pub invariant-loop-number : goal.invariant-loop-number
invariant-loop-number l = first_beyond l.count (drop l.number-index l.numbers) ≡ first_beyond l.count l.numbers
