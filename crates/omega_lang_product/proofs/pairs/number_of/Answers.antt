use Rattle.std.proofs.Common.{sym, ◌∙◌}
use Rattle.omega_lang_product.specs.Pairs.{same_pair}
use Rattle.omega_lang_product.proofs.Formulas.{none_is_len}
use Rattle.omega_lang_product.proofs.pairs.number_of.Goals as goal

pub returns-in-None : goal.returns-in-None
returns-in-None c = c.len.ensures.len ∙ none_is_len (same_pair c.args.pair) c.args.found.now.keys (sym c.in-None.ensures.index)
