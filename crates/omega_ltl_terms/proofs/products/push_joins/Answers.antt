-- one term more
use Rattle.std.proofs.Common.{◌≡◌, ◌<◌, ℕ, List, [], ◌∷◌, length, get_or, take, subst, arith}
use Rattle.std.proofs.lemmas.List.{take_all}
use Rattle.omega_ltl_shapes.specs.declared.term.Term.{Term}
use Rattle.omega_ltl_shapes.proofs.ItemLemmas.{take_read}
use Rattle.omega_ltl_terms.specs.Products.{AddsJoins}
use Rattle.omega_ltl_terms.proofs.Adding.{contains_taken, joins_full, joins_more, joins_none}
use Rattle.omega_ltl_terms.proofs.products.push_joins.Goals as goal

pub loop-term-init : goal.loop-term-init
loop-term-init c = joins_none c.args.with.now c.args.kept.now.items

pub loop-term-preserved : goal.loop-term-preserved
loop-term-preserved c =
    let terms : List Term = c.args.terms.now in
    let i : ℕ = c.loop-term.term-index in
    let here : c.term-item.result ≡ get_or terms i c.term-item.result = cc in
    let below : i < length terms = omega arith in
    subst (λ (xs : List Term). AddsJoins c.args.with.now xs c.args.kept.now.items c.push_join.new.kept.items) (take_read terms i c.term-item.result below here)
    (joins_more c.args.with.now (take i terms) (c.term-item.result ∷ []) c.args.kept.now.items c.loop-term.kept.items c.push_join.new.kept.items
    c.loop-term.invariant c.in_ok-push_join.ensures.ok)

pub returns-clause-ok : goal.returns-clause-ok
returns-clause-ok c =
    let terms : List Term = c.args.terms.now in
    subst (λ (xs : List Term). AddsJoins c.args.with.now xs c.args.kept.now.items c.loop-term.kept.items) (take_all c.loop-term.term-index terms (omega arith))
    c.loop-term.invariant

-- over the limit
pub returns-then-len-gt-MOST_TERMS-clause-ok : goal.returns-then-len-gt-MOST_TERMS-clause-ok
returns-then-len-gt-MOST_TERMS-clause-ok c =
    let full : 4096 < length c.loop-term.kept.items = omega (arith, c.len.ensures) in
    joins_full c.args.with.now (take c.loop-term.term-index c.args.terms.now) c.args.terms.now c.args.kept.now.items c.loop-term.kept.items
    (λ t h. contains_taken c.args.terms.now c.loop-term.term-index t h) (λ room. omega (arith, room, full)) c.loop-term.invariant
