-- the texts so far
use Rattle.std.proofs.Common.{◌≡◌, ◌++◌, take}
use Rattle.omega_lang_lasso_word.specs.Form.{others_form}
use Rattle.omega_lang_lasso_word.proofs.form.write_others.Given as goal

abbrev pub invariant-loop-element : goal.invariant-loop-element
invariant-loop-element g l = l.out.items ≡ l.initial.out.items ++ others_form (g.T.ElementText.told l.elements) (take l.element-index l.others)
