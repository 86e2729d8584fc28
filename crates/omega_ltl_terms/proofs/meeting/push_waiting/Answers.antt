-- the goal, or the demand waits
use Rattle.std.proofs.Common.{true, refl, sym, subst}
use Rattle.std.proofs.lemmas.Result.{on_ok_weaker}
use Rattle.omega_ltl_terms.specs.Products.{AreTerms}
use Rattle.omega_ltl_terms.proofs.MeetingLemmas.{met_strongly}
use Rattle.omega_ltl_terms.proofs.meeting.push_waiting.Goals as goal

pub returns-clause-ok : goal.returns-clause-ok
returns-clause-ok c =
    let shapes = c.args.tables.now.shapes in
    let terms = subst (AreTerms c.args.tables.now.shapes) (sym c.as_slice.ensures) c.requires.tables.terms in
    on_ok_weaker c.push_products-2.result
    (λ added. met_strongly c.args.tables.now.shapes c.requires.tables.terms.grounded c.args.tables.now.strongs c.args.d c.args.goal c.args.keep true c.requires.strong refl
    c.args.edge.now c.args.set c.requires.set c.in_ok-later.later c.in_ok-later.ensures c.args.kept.now.items c.push_products.new.kept.items c.push_products-2.new.kept.items
    (c.in_ok-push_products.ensures.ok c.args.tables.now.shapes terms)
    (added c.args.tables.now.shapes (subst (AreTerms c.args.tables.now.shapes) (sym c.as_slice-2.ensures) c.requires.tables.terms)))
    c.push_products-2.ensures.ok
