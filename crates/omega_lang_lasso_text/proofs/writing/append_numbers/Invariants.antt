-- `append_numbers`: the numbers before this one are written.
use Rattle.std.proofs.Common.{◌≡◌, ◌++◌, take}
use Rattle.omega_lang_lasso_text.specs.Written.{numbers_text}
use Rattle.omega_lang_lasso_text.proofs.writing.append_numbers.Given as goal

abbrev pub invariant-loop-number : goal.invariant-loop-number
invariant-loop-number l = l.out.items ≡ l.fn.out.items ++ numbers_text (take l.number-index l.numbers)
