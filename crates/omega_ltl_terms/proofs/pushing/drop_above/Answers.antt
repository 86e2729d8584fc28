-- a term is dropped, or stays
use Rattle.std.proofs.Common.{◌<◌, ◌≤◌, ℕ, length, arith}
use Rattle.std.proofs.lemmas.Bool.{both_ways}
use Rattle.omega_ltl_terms.proofs.Adding.{drops_more, drops_none, drops_same, none_above}
use Rattle.omega_ltl_terms.proofs.pushing.drop_above.Goals as goal

pub loop-at-init : goal.loop-at-init
loop-at-init c = drops_none c.args.term.now c.args.terms.now.items

pub loop-at-preserved-then-is_within : goal.loop-at-preserved-then-is_within
loop-at-preserved-then-is_within c =
    let at : ℕ = c.loop-at.at in
    let low : at < length c.loop-at.terms.items = omega arith in
    drops_more c.args.term.now c.args.terms.now.items c.loop-at.terms.items c.swap_remove.new.self.items at c.index.result.now c.swap_remove.result low c.index.ensures
    c.swap_remove.ensures.value c.swap_remove.ensures.items (c.is_within.ensures.0 c.if-is_within.true) c.loop-at.invariant

pub loop-at-preserved : goal.loop-at-preserved
loop-at-preserved c =
    let at : ℕ = c.loop-at.at in
    let low : at < length c.loop-at.terms.items = omega arith in
    drops_same c.args.term.now at c.args.terms.now.items c.loop-at.terms.items c.index.result.now c.index.ensures low
    (λ w. both_ways c.is_within.result c.if-is_within.false (c.is_within.ensures.1 w)) c.loop-at.invariant

pub returns-clause-below : goal.returns-clause-below
returns-clause-below c =
    let end : length c.loop-at.terms.items ≤ c.loop-at.at = omega arith in
    none_above c.args.term.now c.loop-at.at c.args.terms.now.items c.loop-at.terms.items end c.loop-at.invariant
