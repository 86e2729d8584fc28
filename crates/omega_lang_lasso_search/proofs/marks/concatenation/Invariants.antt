-- the numbers so far
use Rattle.std.proofs.Common.{◌≡◌, ◌++◌, take}
use Rattle.omega_lang_lasso_search.proofs.marks.concatenation.Given as goal

abbrev pub invariant-loop-number : goal.invariant-loop-number
invariant-loop-number l = l.list ≡ l.first ++ take l.number-index l.second
