-- the labels so far
use Rattle.std.proofs.Common.{◌≡◌, ◌++◌, take}
use Rattle.omega_lang_lasso_word.specs.private.Infix.{further_words}
use Rattle.omega_lang_lasso_word.proofs.letters.write_further.Given as goal

abbrev pub invariant-loop-other : goal.invariant-loop-other
invariant-loop-other l = l.out.items ≡ l.initial.out.items ++ further_words l.names (take l.other-index l.others)
