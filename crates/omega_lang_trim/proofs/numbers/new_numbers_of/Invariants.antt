-- the numbers so far
use Rattle.std.proofs.Common.{◌≡◌, map, take}
use Rattle.omega_lang_trim.specs.Trimmed.{new_number}
use Rattle.omega_lang_trim.proofs.numbers.new_numbers_of.Given as goal

abbrev pub invariant-loop-number : goal.invariant-loop-number
invariant-loop-number l = l.new ≡ map (new_number l.kept.keys) (take l.number-index l.numbers)
