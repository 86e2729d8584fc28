use Rattle.std.proofs.Common.{refl, ◌∙◌}
use Rattle.std.proofs.lemmas.Result.{on_ok_weaker}
use Rattle.omega_ltl_terms.proofs.ProductLemmas.{literal_added, literal_none}
use Rattle.omega_ltl_terms.proofs.products.push_literal.Goals as goal

pub returns-in-None-clause-ok : goal.returns-in-None-clause-ok
returns-in-None-clause-ok c shapes =
    literal_none shapes c.args.with.now c.args.name c.args.negated c.of_literal-literal.result c.of_literal-literal.ensures c.args.kept.now.items c.in-None.ensures.none

pub returns-in_ok-next-in-Some-clause-ok : goal.returns-in_ok-next-in-Some-clause-ok
returns-in_ok-next-in-Some-clause-ok c = on_ok_weaker c.push_minimal.result
    (λ added shapes. literal_added shapes c.args.with.now c.args.name c.args.negated c.of_literal-literal.result c.of_literal-literal.ensures c.args.kept.now.items
    (record { cube = c.in-Some.cube; next = c.in_ok-next-in-Some.next; late = c.args.with.now.late }) c.push_minimal.new.kept.items
    c.in-Some.ensures.some c.in-Some.ensures.agree (c.in_ok-next-in-Some.ensures ∙ c.as_slice.ensures) refl added)
    c.push_minimal.ensures.ok
