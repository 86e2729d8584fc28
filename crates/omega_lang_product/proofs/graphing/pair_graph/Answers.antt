use Rattle.std.proofs.Common.{sym, ◌∙◌}
use Rattle.omega_lang_product.specs.Refusing.{IsGraphTooLarge}
use Rattle.omega_lang_product.proofs.Refused.{plain_err}
use Rattle.omega_lang_product.proofs.graphing.pair_graph.Goals as goal

pub returns-clause-refused : goal.returns-clause-refused
returns-clause-refused c =
    plain_err (IsGraphTooLarge c.args.first.now c.args.second.now) c.args.first.now c.args.second.now c.graph_of.result (sym c.branches.ensures ∙ c.if-branches.false) c.graph_of.ensures.refused
