use Rattle.std.proofs.lemmas.Result.{on_ok_weaker}
use Rattle.omega_ltl_terms.proofs.Adding.{pairs_apart, pairs_one}
use Rattle.omega_ltl_terms.proofs.products.push_pairs_with.Goals as goal

pub returns-in-None-clause-ok : goal.returns-in-None-clause-ok
returns-in-None-clause-ok c = pairs_apart c.args.with.now c.args.first.now c.args.seconds.now c.args.kept.now.items (rw c.in-None.is at c.in_ok-found.ensures.none)

pub returns-in-Some-clause-ok : goal.returns-in-Some-clause-ok
returns-in-Some-clause-ok c = on_ok_weaker c.push_joins.result
    (λ added. pairs_one c.args.with.now c.args.first.now c.in-Some.joined c.args.seconds.now c.args.kept.now.items c.push_joins.new.kept.items (record { agree = rw c.in-Some.is at c.in_ok-found.ensures.agree; of_both = rw c.in-Some.is at c.in_ok-found.ensures.some }) added)
    c.push_joins.ensures.ok
