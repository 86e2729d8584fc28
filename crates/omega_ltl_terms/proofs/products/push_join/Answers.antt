use Rattle.std.proofs.lemmas.Result.{on_ok_weaker}
use Rattle.omega_ltl_terms.proofs.Adding.{joined_none, joined_one}
use Rattle.omega_ltl_terms.proofs.products.push_join.Goals as goal

pub returns-in-None-clause-ok : goal.returns-in-None-clause-ok
returns-in-None-clause-ok c = joined_none c.args.with.now c.args.term.now c.args.kept.now.items (rw c.in-None.is at c.in_ok-found.ensures.none)

pub returns-in-Some-clause-ok : goal.returns-in-Some-clause-ok
returns-in-Some-clause-ok c = on_ok_weaker c.push_minimal.result
    (λ added. joined_one c.args.with.now c.args.term.now c.in-Some.joined c.args.kept.now.items c.push_minimal.new.kept.items (record { agree = rw c.in-Some.is at c.in_ok-found.ensures.agree; of_both = rw c.in-Some.is at c.in_ok-found.ensures.some }) added)
    c.push_minimal.ensures.ok
