-- the starts so far
use Rattle.std.proofs.Common.{◌≡◌, take}
use Rattle.omega_lang_product.specs.Pairs.{starts_between, with_pairs}
use Rattle.omega_lang_product.proofs.exploring.add_starts.Given as goal

abbrev pub invariant-loop-start : goal.invariant-loop-start
invariant-loop-start l =
    l.found ≡ with_pairs l.initial.found (starts_between (take l.start-index l.starts) l.others)
