-- the starts so far
use Rattle.std.proofs.Common.{◌≡◌, ◌++◌, map, take}
use Rattle.omega_lang_product.specs.Pairs.{starts_between}
use Rattle.omega_lang_product.specs.Written.{raw_start}
use Rattle.omega_lang_product.proofs.header.push_starts.Given as goal

abbrev pub invariant-loop-first : goal.invariant-loop-first
invariant-loop-first l =
    l.items.items ≡ l.initial.items.items ++ map (raw_start l.starts.found.now.keys) (starts_between (take l.first-index l.starts.firsts.now) l.starts.seconds.now)
