-- What holds in the loop of `any_two_alike`: two of the names are alike if two of those that are left are.
use Rattle.std.proofs.Common.{◌≡◌, length}
use Rattle.std.specs.Str.{bytes_eq}
use Rattle.omega_hoa_automaton.specs.Automaton.{has_repeat}
use Rattle.omega_hoa_automaton.proofs.judging.repeats.any_two_alike.Given as goal

abbrev pub invariant-loop-left : goal.invariant-loop-left
invariant-loop-left l = has_repeat bytes_eq l.names ≡ has_repeat bytes_eq l.left

abbrev pub decreases-loop-left : goal.decreases-loop-left
decreases-loop-left l = length l.left
