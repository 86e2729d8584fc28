-- the starts so far
use Rattle.std.proofs.Common.{◌≡◌, take}
use Rattle.omega_lang_product.specs.Pairs.{starts_with, with_pairs}
use Rattle.omega_lang_product.proofs.exploring.add_starts_with.Given as goal

abbrev pub invariant-loop-other : goal.invariant-loop-other
invariant-loop-other l = l.found ≡ with_pairs l.initial.found (starts_with l.first (take l.other-index l.others))
