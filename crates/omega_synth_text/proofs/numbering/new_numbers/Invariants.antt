-- the numbers of the states before, and how many of them are reached
use Rattle.std.proofs.Common.{◌≡◌, map}
use Rattle.std.specs.List.{range_with_len}
use Rattle.omega_synth_text.specs.Winner.{number_of}
use Rattle.omega_synth_text.specs.private.Parts.{flag}
use Rattle.omega_synth_text.proofs.numbering.new_numbers.Given as goal

abbrev pub invariant-loop-state : goal.invariant-loop-state
invariant-loop-state l =
    (l.numbers.items ≡ map (number_of (flag l.reached)) (range_with_len 0 l.state))
    × (l.count ≡ number_of (flag l.reached) l.state)
