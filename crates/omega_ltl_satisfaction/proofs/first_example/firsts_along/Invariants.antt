-- the numbers so far
use Rattle.std.proofs.Common.{◌≡◌, get_or, map, take}
use Rattle.omega_ltl_satisfaction.proofs.first_example.firsts_along.Given as goal

abbrev pub invariant-loop-number : goal.invariant-loop-number
invariant-loop-number l = l.found.items ≡ map (λ number. get_or l.firsts number 0) (take l.number-index l.numbers)
