-- the others so far
use Rattle.std.proofs.Common.{◌≡◌, ◌++◌, take}
use Rattle.omega_lang_product.proofs.adding.concatenation.Given as goal

abbrev pub invariant-loop-other : goal.invariant-loop-other
invariant-loop-other l = l.all ≡ l.numbers ++ take l.other-index l.others
