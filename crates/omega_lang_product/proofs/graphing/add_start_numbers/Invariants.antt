-- the starts so far
use Rattle.std.proofs.Common.{◌≡◌, ◌++◌, map, take}
use Rattle.omega_lang_product.specs.Pairs.{pair_number, starts_with}
use Rattle.omega_lang_product.proofs.graphing.add_start_numbers.Given as goal

abbrev pub invariant-loop-second : goal.invariant-loop-second
invariant-loop-second l =
    l.numbers.items ≡ l.initial.numbers.items ++ map (pair_number l.starts.found.now.keys) (starts_with l.first (take l.second-index l.starts.seconds.now))
