-- it is the formula in which each of no sets has to recur
use Rattle.omega_lang_product.proofs.Conjoined.{judged_true}
use Rattle.omega_lang_product.proofs.acceptance.is_true.Goals as goal

pub returns : goal.returns
returns c = judged_true c.args.formula.now c.is_buchi.result c.is_buchi.ensures
