-- the starts are those of both
use Rattle.std.proofs.Common.{map, ap, ap₂}
use Rattle.std.proofs.lemmas.Result.{IfOk-weaker}
use Rattle.std.proofs.Common.{◌∙◌}
use Rattle.omega_lang_product.specs.Pairs.{pair_number, starts_between}
use Rattle.omega_lang_product.proofs.graphing.starts_in.Goals as goal

pub returns-clause-ok : goal.returns-clause-ok
returns-clause-ok c =
    IfOk-weaker c.start_numbers.result _ _
    (λ numbers are. are ∙ ap (map (pair_number c.args.explored.now.pairs.keys)) (ap₂ starts_between c.starts.ensures c.starts-2.ensures))
    c.start_numbers.ensures.ok
