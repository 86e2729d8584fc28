-- the starts so far
use Rattle.std.proofs.Common.{◌≡◌, ◌++◌, map, take}
use Rattle.omega_lang_product.specs.Pairs.{starts_with}
use Rattle.omega_lang_product.specs.Written.{raw_start}
use Rattle.omega_lang_product.proofs.header.push_starts_with.Given as goal

abbrev pub invariant-loop-second : goal.invariant-loop-second
invariant-loop-second l =
    l.items.items ≡ l.initial.items.items ++ map (raw_start l.starts.found.now.keys) (starts_with l.first (take l.second-index l.starts.seconds.now))
