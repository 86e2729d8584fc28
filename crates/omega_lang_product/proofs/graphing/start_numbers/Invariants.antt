-- the starts so far
use Rattle.std.proofs.Common.{◌≡◌, map, take}
use Rattle.omega_lang_product.specs.Pairs.{pair_number, starts_between}
use Rattle.omega_lang_product.proofs.graphing.start_numbers.Given as goal

abbrev pub invariant-loop-first : goal.invariant-loop-first
invariant-loop-first l =
    l.numbers.items ≡ map (pair_number l.starts.found.now.keys) (starts_between (take l.first-index l.starts.firsts.now) l.starts.seconds.now)
