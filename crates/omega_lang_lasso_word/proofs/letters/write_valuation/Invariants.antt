-- the literals so far
use Rattle.std.proofs.Common.{◌≡◌, ◌++◌, take}
use Rattle.omega_lang_lasso_word.specs.Letters.{literals_after}
use Rattle.omega_lang_lasso_word.proofs.letters.write_valuation.Given as goal

abbrev pub invariant-loop-at : goal.invariant-loop-at
invariant-loop-at l = l.out.items ≡ l.initial.out.items ++ literals_after l.index 1 (take l.at l.others)
