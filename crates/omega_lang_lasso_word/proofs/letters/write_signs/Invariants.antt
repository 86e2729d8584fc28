-- what is written and the signs that are left are the text
use Rattle.std.proofs.Common.{◌≡◌, ◌++◌, length}
use Rattle.omega_lang_lasso_word.specs.private.Infix.{signs_words}
use Rattle.omega_lang_lasso_word.proofs.letters.write_signs.Given as goal

abbrev pub invariant-loop-sign : goal.invariant-loop-sign
invariant-loop-sign l =
    l.out.items ++ signs_words l.names l.signs ≡ l.fn.out.items ++ signs_words l.names l.fn.signs

abbrev pub decreases-loop-sign : goal.decreases-loop-sign
decreases-loop-sign l = length l.signs
