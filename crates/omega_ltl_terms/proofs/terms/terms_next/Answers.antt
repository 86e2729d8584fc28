use Rattle.std.proofs.Common.{List, [], sym, subst}
use Rattle.omega_ltl_shapes.specs.declared.term.Term.{Term}
use Rattle.omega_ltl_terms.specs.Adding.{AddsMinimal}
use Rattle.omega_ltl_terms.specs.Products.{AreTermsOf}
use Rattle.omega_ltl_terms.proofs.TermLemmas.{terms_next}
use Rattle.omega_ltl_terms.proofs.terms.terms_next.Goals as goal

pub returns-clause-terms : goal.returns-clause-terms
returns-clause-terms c shapes grounded is =
    subst (AreTermsOf shapes c.args.d) (sym c.from_vec.ensures)
    (terms_next shapes grounded c.args.d c.args.e c.push_minimal.new.kept.items is
    (subst (λ (term : Term). AddsMinimal term [] c.push_minimal.new.kept.items) c.next_term-later.ensures
    (subst (λ (old : List Term). AddsMinimal c.next_term-later.result old c.push_minimal.new.kept.items) c.new-terms.ensures.items c.in_ok-push_minimal.ensures.ok)))
