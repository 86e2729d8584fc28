-- one first term more
use Rattle.std.proofs.Common.{◌≡◌, ◌<◌, ℕ, List, [], ◌∷◌, length, get_or, take, subst, arith}
use Rattle.std.proofs.lemmas.List.{take_all}
use Rattle.omega_ltl_shapes.specs.declared.term.Term.{Term}
use Rattle.omega_ltl_shapes.proofs.ItemLemmas.{take_read}
use Rattle.omega_ltl_terms.specs.Products.{AddsPairs}
use Rattle.omega_ltl_terms.proofs.Adding.{contains_taken, pairs_full, pairs_more, pairs_none}
use Rattle.omega_ltl_terms.proofs.products.push_pairs.Goals as goal

pub loop-first-init : goal.loop-first-init
loop-first-init c = pairs_none c.args.with.now c.args.seconds.now c.args.kept.now.items

pub loop-first-preserved : goal.loop-first-preserved
loop-first-preserved c =
    let firsts : List Term = c.args.firsts.now in
    let i : ℕ = c.loop-first.first-index in
    let here : c.first-item.result ≡ get_or firsts i c.first-item.result = cc in
    let below : i < length firsts = omega arith in
    subst (λ (xs : List Term). AddsPairs c.args.with.now xs c.args.seconds.now c.args.kept.now.items c.push_pairs_with.new.kept.items)
    (take_read firsts i c.first-item.result below here)
    (pairs_more c.args.with.now (take i firsts) (c.first-item.result ∷ []) c.args.seconds.now c.args.kept.now.items c.loop-first.kept.items c.push_pairs_with.new.kept.items
    c.loop-first.invariant c.in_ok-push_pairs_with.ensures.ok)

pub returns-clause-ok : goal.returns-clause-ok
returns-clause-ok c =
    let firsts : List Term = c.args.firsts.now in
    subst (λ (xs : List Term). AddsPairs c.args.with.now xs c.args.seconds.now c.args.kept.now.items c.loop-first.kept.items)
    (take_all c.loop-first.first-index firsts (omega arith)) c.loop-first.invariant

-- over the limit
pub returns-then-len-gt-MOST_TERMS-clause-ok : goal.returns-then-len-gt-MOST_TERMS-clause-ok
returns-then-len-gt-MOST_TERMS-clause-ok c =
    let full : 4096 < length c.loop-first.kept.items = omega (arith, c.len.ensures) in
    pairs_full c.args.with.now (take c.loop-first.first-index c.args.firsts.now) c.args.firsts.now c.args.seconds.now c.args.kept.now.items c.loop-first.kept.items
    (λ t h. contains_taken c.args.firsts.now c.loop-first.first-index t h) (λ room. omega (arith, room, full)) c.loop-first.invariant
