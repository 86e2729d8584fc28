-- what is covered stays; else its terms are put beside
use Rattle.std.proofs.Common.{sym, subst}
use Rattle.std.proofs.lemmas.Result.{on_ok_weaker}
use Rattle.omega_ltl_terms.specs.Products.{AreTerms}
use Rattle.omega_ltl_terms.proofs.MeetingLemmas.{met_itself, met_weakly}
use Rattle.omega_ltl_terms.proofs.meeting.push_weak.Goals as goal

pub returns-then-covered-clause-ok : goal.returns-then-covered-clause-ok
returns-then-covered-clause-ok c = on_ok_weaker c.push_minimal.result
    (λ added. met_itself c.args.tables.now.shapes c.requires.tables.terms.grounded c.args.tables.now.strongs c.args.d c.args.edge.now c.in_ok-same.same c.args.kept.now.items
    c.push_minimal.new.kept.items c.in_ok-same.ensures
    (record { covers = c.requires.covered c.if-covered.true; postponed = λ strong. absurd (c.requires.weak strong) }) added)
    c.push_minimal.ensures.ok

pub returns-clause-ok : goal.returns-clause-ok
returns-clause-ok c = on_ok_weaker c.push_products.result
    (λ added. met_weakly c.args.tables.now.shapes c.requires.tables.terms.grounded c.args.tables.now.strongs c.args.d c.args.edge.now c.args.kept.now.items c.push_products.new.kept.items
    c.requires.weak (added c.args.tables.now.shapes (subst (AreTerms c.args.tables.now.shapes) (sym c.as_slice.ensures) c.requires.tables.terms)))
    c.push_products.ensures.ok
