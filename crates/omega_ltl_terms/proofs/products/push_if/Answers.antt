use Rattle.std.proofs.Common.{Bool, sym, subst}
use Rattle.std.proofs.lemmas.Result.{on_ok_weaker}
use Rattle.omega_ltl_shapes.specs.declared.combination.Combination.TheVariants.{Constant}
use Rattle.omega_ltl_terms.specs.Products.{AddsCombination}
use Rattle.omega_ltl_terms.proofs.ProductLemmas.{constant_added, constant_none}
use Rattle.omega_ltl_terms.proofs.products.push_if.Goals as goal

pub returns-then-not-value-clause-ok : goal.returns-then-not-value-clause-ok
returns-then-not-value-clause-ok c shapes =
    subst (λ (b : Bool). AddsCombination shapes c.args.with.now (Constant b) c.args.kept.now.items c.args.kept.now.items) (sym c.if-not-value.true)
    (constant_none shapes c.args.with.now c.args.kept.now.items)

pub returns-clause-ok : goal.returns-clause-ok
returns-clause-ok c = on_ok_weaker c.push_minimal.result
    (λ added shapes. subst (λ (b : Bool). AddsCombination shapes c.args.with.now (Constant b) c.args.kept.now.items c.push_minimal.new.kept.items) (sym c.if-not-value.false)
    (constant_added shapes c.args.with.now c.in_ok-same.same c.args.kept.now.items c.push_minimal.new.kept.items c.in_ok-same.ensures added))
    c.push_minimal.ensures.ok
