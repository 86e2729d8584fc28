-- one number more
use Rattle.std.proofs.Common.{◌<◌, ℕ, List, [], ◌∷◌, length, get_or, take, subst, sym, arith}
use Rattle.std.proofs.lemmas.List.{take_all}
use Rattle.omega_ltl_shapes.specs.Terms.{HasItemsOfBoth}
use Rattle.omega_ltl_shapes.proofs.ItemLemmas.{get_or_same, of_both_more, of_both_none, take_read}
use Rattle.omega_ltl_shapes.proofs.items.items_of_both.Goals as goal

pub loop-item-init : goal.loop-item-init
loop-item-init c = subst (HasItemsOfBoth c.args.one.now []) (sym c.in_ok-both.ensures) (of_both_none c.args.one.now)

pub loop-item-preserved : goal.loop-item-preserved
loop-item-preserved c =
    let other : List ℕ = c.args.other.now in
    let i : ℕ = c.loop-item.item-index in
    let below : i < length other = omega arith in
    subst (λ (xs : List ℕ). HasItemsOfBoth c.args.one.now xs c.push_missing.new.items) (take_read other i (get_or other i 0) below (get_or_same other i 0 below))
    (of_both_more c.args.one.now (take i other) (get_or other i 0 ∷ []) c.loop-item.both c.push_missing.new.items c.loop-item.invariant c.in_ok-push_missing.ensures)

pub returns : goal.returns
returns c =
    subst (λ (xs : List ℕ). HasItemsOfBoth c.args.one.now xs c.loop-item.both) (take_all c.loop-item.item-index c.args.other.now (omega arith)) c.loop-item.invariant
