use Rattle.std.proofs.Common.{sym, ◌∙◌}
use Rattle.omega_lang_product.specs.Refusing.{IsProductTooLarge}
use Rattle.omega_lang_product.proofs.Refused.{plain_err}
use Rattle.omega_lang_product.proofs.forming.product.Goals as goal

pub returns-clause-refused : goal.returns-clause-refused
returns-clause-refused c =
    plain_err (IsProductTooLarge c.args.first.now c.args.second.now) c.args.first.now c.args.second.now c.product_automaton.result (sym c.branches.ensures ∙ c.if-branches.false) c.product_automaton.ensures.refused
