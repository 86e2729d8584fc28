use Rattle.std.proofs.lemmas.Result.{IfOk-weaker}
use Rattle.omega_ltl_terms.proofs.SplittingLemmas.{negations_added}
use Rattle.omega_ltl_terms.proofs.splitting.push_negations.Goals as goal

pub returns : goal.returns
returns c = IfOk-weaker c.push_negation-2.result _ _
    (λ more added. negations_added c.args.base c.args.other c.in_ok-middle.middle more c.args.name c.args.left.now.items c.push_negation.new.left.items c.push_negation-2.new.left.items
    c.in_ok-middle.ensures added)
    c.push_negation-2.ensures
