use Rattle.std.proofs.Common.{sym, subst}
use Rattle.std.proofs.lemmas.Result.{on_ok_weaker}
use Rattle.omega_ltl_terms.specs.private.Splitting.{AreLeft}
use Rattle.omega_ltl_terms.proofs.SplittingLemmas.{parts_added}
use Rattle.omega_ltl_terms.proofs.splitting.push_parts.Goals as goal

pub returns-clause-ok : goal.returns-clause-ok
returns-clause-ok c = on_ok_weaker c.push_all.result
    (λ pushed. parts_added c.args.before.now c.args.edge.now c.as_slice.result.now c.args.parts.now.items c.push_all.new.parts.items
    (subst (AreLeft c.args.before.now c.args.edge.now) (sym c.as_slice.ensures.value) c.in_ok-cubes.ensures) pushed)
    c.push_all.ensures.ok
