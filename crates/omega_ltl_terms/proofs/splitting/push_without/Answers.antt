-- the literals of one name more
use Rattle.std.proofs.Common.{◌≡◌, ℕ, not, ap, subst, sym, ◌∙◌, arith}
use Rattle.omega_ltl_shapes.specs.Terms.{AreContradictory}
use Rattle.omega_ltl_terms.specs.private.Splitting.{AddsWithout}
use Rattle.omega_ltl_terms.proofs.SplittingLemmas.{IsSoFar, so_far_all, so_far_more, so_far_none}
use Rattle.omega_ltl_terms.proofs.SplittingLemmas.{agree_joined, without_apart}
use Rattle.omega_ltl_terms.proofs.splitting.push_without.Goals as goal

pub loop-name-init : goal.loop-name-init
loop-name-init c = so_far_none c.args.cube c.args.other c.args.left.now.items

pub loop-name-preserved : goal.loop-name-preserved
loop-name-preserved c = so_far_more c.args.cube c.args.other c.loop-name.base c.in_ok-base.base c.loop-name.name c.args.left.now.items c.loop-name.left.items
    c.push_negations.new.left.items c.loop-name.invariant c.in_ok-base.ensures

pub returns-then-is_none : goal.returns-then-is_none
returns-then-is_none c = subst (AddsWithout c.args.cube c.args.other c.args.left.now.items) (sym c.in_ok-push.ensures.items) (without_apart c.args.cube c.args.other c.args.left.now.items)

pub returns : goal.returns
returns c =
    so_far_all c.args.cube c.args.other c.loop-name.base c.args.left.now.items c.loop-name.left.items
    (agree_joined c.join.result (AreContradictory c.args.cube c.args.other → ⊥) (c.is_none.ensures ∙ ap not c.if-is_none.false) c.join.ensures.agree) c.bits_are_below.ensures c.bits_are_below-2.ensures
    (subst (λ (n : ℕ). IsSoFar c.args.cube c.args.other c.loop-name.base n c.args.left.now.items c.loop-name.left.items) (let e : c.loop-name.name ≡ 64 = omega arith in e) c.loop-name.invariant)
