-- each combination by the terms of its demands
use Rattle.std.proofs.Common.{◌<◌, List, length, sym, subst}
use Rattle.std.proofs.lemmas.Result.{on_ok_weaker}
use Rattle.omega_ltl_shapes.specs.Combinations.{SpeaksBelow}
use Rattle.omega_ltl_shapes.specs.declared.combination.Combination.{Combination}
use Rattle.omega_ltl_shapes.specs.declared.term.Term.{Term}
use Rattle.omega_ltl_terms.specs.Products.{AddsCombination, AddsJoins, AddsPairs, terms_at}
use Rattle.omega_ltl_terms.proofs.ProductLemmas.{both_added, cases_added, either_added, same_added}
use Rattle.omega_ltl_terms.proofs.products.push_products.Goals as goal

pub returns-in-Constant-clause-ok : goal.returns-in-Constant-clause-ok
returns-in-Constant-clause-ok c = on_ok_weaker c.push_if.result
    (λ added shapes are. subst (λ (x : Combination). AddsCombination shapes c.args.with.now x c.args.kept.now.items c.push_if.new.kept.items) (sym c.in-Constant.is) (added shapes))
    c.push_if.ensures.ok

pub returns-in-Literal-clause-ok : goal.returns-in-Literal-clause-ok
returns-in-Literal-clause-ok c = on_ok_weaker c.push_literal.result
    (λ added shapes are. subst (λ (x : Combination). AddsCombination shapes c.args.with.now x c.args.kept.now.items c.push_literal.new.kept.items) (sym c.in-Literal.is) (added shapes))
    c.push_literal.ensures.ok

pub returns-in-Same-clause-ok : goal.returns-in-Same-clause-ok
returns-in-Same-clause-ok c =
    let low : c.in-Same.d < length c.args.terms.now = subst (SpeaksBelow (length c.args.terms.now)) c.in-Same.is c.requires in
    on_ok_weaker c.push_joins.result
    (λ added shapes are. subst (λ (x : Combination). AddsCombination shapes c.args.with.now x c.args.kept.now.items c.push_joins.new.kept.items) (sym c.in-Same.is)
    (same_added shapes c.args.terms.now are c.args.with.now c.args.kept.now.items c.in-Same.d c.push_joins.new.kept.items low
    (subst (λ (xs : List Term). AddsJoins c.args.with.now xs c.args.kept.now.items c.push_joins.new.kept.items) c.terms_at.ensures added)))
    c.push_joins.ensures.ok

pub returns-in-Both-clause-ok : goal.returns-in-Both-clause-ok
returns-in-Both-clause-ok c =
    let low : (c.in-Both.d < length c.args.terms.now) × (c.in-Both.e < length c.args.terms.now) = subst (SpeaksBelow (length c.args.terms.now)) c.in-Both.is c.requires in
    on_ok_weaker c.push_pairs.result
    (λ added shapes are. subst (λ (x : Combination). AddsCombination shapes c.args.with.now x c.args.kept.now.items c.push_pairs.new.kept.items) (sym c.in-Both.is)
    (both_added shapes c.args.terms.now are c.args.with.now c.args.kept.now.items c.in-Both.d c.in-Both.e c.push_pairs.new.kept.items low.0 low.1
    (subst (λ (ys : List Term). AddsPairs c.args.with.now (terms_at c.args.terms.now c.in-Both.d) ys c.args.kept.now.items c.push_pairs.new.kept.items) c.terms_at-in-Both-2.ensures
    (subst (λ (xs : List Term). AddsPairs c.args.with.now xs c.terms_at-in-Both-2.result.now c.args.kept.now.items c.push_pairs.new.kept.items) c.terms_at-in-Both.ensures added))))
    c.push_pairs.ensures.ok

pub returns-in_ok-push_joins-in-Either-clause-ok : goal.returns-in_ok-push_joins-in-Either-clause-ok
returns-in_ok-push_joins-in-Either-clause-ok c =
    let mid : List Term = c.push_joins-in-Either.new.kept.items in
    let new : List Term = c.push_joins-in-Either-2.new.kept.items in
    let low : (c.in-Either.d < length c.args.terms.now) × (c.in-Either.e < length c.args.terms.now) = subst (SpeaksBelow (length c.args.terms.now)) c.in-Either.is c.requires in
    on_ok_weaker c.push_joins-in-Either-2.result
    (λ added shapes are. subst (λ (x : Combination). AddsCombination shapes c.args.with.now x c.args.kept.now.items new) (sym c.in-Either.is)
    (either_added shapes c.args.terms.now are c.args.with.now c.args.kept.now.items c.in-Either.d c.in-Either.e mid new
    (same_added shapes c.args.terms.now are c.args.with.now c.args.kept.now.items c.in-Either.d mid low.0
    (subst (λ (xs : List Term). AddsJoins c.args.with.now xs c.args.kept.now.items mid) c.terms_at-in-Either.ensures c.in_ok-push_joins-in-Either.ensures.ok))
    (same_added shapes c.args.terms.now are c.args.with.now mid c.in-Either.e new low.1
    (subst (λ (xs : List Term). AddsJoins c.args.with.now xs mid new) c.terms_at-in-Either-2.ensures added))))
    c.push_joins-in-Either-2.ensures.ok

pub returns-in_ok-push_pairs-in-Cases-clause-ok : goal.returns-in_ok-push_pairs-in-Cases-clause-ok
returns-in_ok-push_pairs-in-Cases-clause-ok c =
    let mid : List Term = c.push_pairs-in-Cases.new.kept.items in
    let new : List Term = c.push_pairs-in-Cases-2.new.kept.items in
    let low : (c.in-Cases.a < length c.args.terms.now) × (c.in-Cases.b < length c.args.terms.now) × (c.in-Cases.c < length c.args.terms.now) × (c.in-Cases.d < length c.args.terms.now) =
    subst (SpeaksBelow (length c.args.terms.now)) c.in-Cases.is c.requires in
    on_ok_weaker c.push_pairs-in-Cases-2.result
    (λ added shapes are. subst (λ (x : Combination). AddsCombination shapes c.args.with.now x c.args.kept.now.items new) (sym c.in-Cases.is)
    (cases_added shapes c.args.terms.now are c.args.with.now c.args.kept.now.items c.in-Cases.a c.in-Cases.b c.in-Cases.c c.in-Cases.d mid new
    (both_added shapes c.args.terms.now are c.args.with.now c.args.kept.now.items c.in-Cases.a c.in-Cases.b mid low.0 low.1
    (subst (λ (ys : List Term). AddsPairs c.args.with.now (terms_at c.args.terms.now c.in-Cases.a) ys c.args.kept.now.items mid) c.terms_at-in-Cases-2.ensures
    (subst (λ (xs : List Term). AddsPairs c.args.with.now xs c.terms_at-in-Cases-2.result.now c.args.kept.now.items mid) c.terms_at-in-Cases.ensures
    c.in_ok-push_pairs-in-Cases.ensures.ok)))
    (both_added shapes c.args.terms.now are c.args.with.now mid c.in-Cases.c c.in-Cases.d new low.2 low.3
    (subst (λ (ys : List Term). AddsPairs c.args.with.now (terms_at c.args.terms.now c.in-Cases.c) ys mid new) c.terms_at-in-Cases-4.ensures
    (subst (λ (xs : List Term). AddsPairs c.args.with.now xs c.terms_at-in-Cases-4.result.now mid new) c.terms_at-in-Cases-3.ensures added)))))
    c.push_pairs-in-Cases-2.ensures.ok
