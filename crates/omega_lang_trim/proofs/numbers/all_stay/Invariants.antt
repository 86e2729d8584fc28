-- the numbers so far stay
use Rattle.std.proofs.Common.{◌≡◌, true, take}
use Rattle.std.specs.List.{list_all}
use Rattle.omega_lang_trim.specs.Trimmed.{stays}
use Rattle.omega_lang_trim.proofs.numbers.all_stay.Given as goal

abbrev pub invariant-loop-number : goal.invariant-loop-number
invariant-loop-number l = list_all (stays l.kept.keys) (take l.number-index l.numbers) ≡ true
