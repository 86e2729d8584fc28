use Rattle.std.proofs.Common.{List, sym, subst}
use Rattle.omega_ltl_shapes.specs.declared.term.Term.{Term}
use Rattle.omega_ltl_terms.specs.Products.{AddsCombination, AreTermsOf}
use Rattle.omega_ltl_terms.proofs.TermLemmas.{terms_fix}
use Rattle.omega_ltl_terms.proofs.terms.terms_fix.Goals as goal

pub returns-clause-terms : goal.returns-clause-terms
returns-clause-terms c shapes are is =
    subst (AreTermsOf shapes c.args.d) (sym c.from_vec.ensures)
    (terms_fix shapes are.grounded c.args.d c.args.goal c.args.keep c.args.strong c.empty-unit.result c.push_products.new.kept.items c.push_products-2.new.kept.items is
    c.empty-unit.ensures.cube c.empty-unit.ensures.next c.empty-unit.ensures.late
    (subst (λ (old : List Term). AddsCombination shapes c.empty-unit.result c.args.goal old c.push_products.new.kept.items) c.new-terms.ensures.items (c.in_ok-push_products.ensures.ok shapes are))
    (subst (λ (term : Term). AddsCombination shapes term c.args.keep c.push_products.new.kept.items c.push_products-2.new.kept.items) c.next_term-later.ensures
    (c.in_ok-push_products-2.ensures.ok shapes are)))
