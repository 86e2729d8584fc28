-- one number more, or one that is missing
use Rattle.std.proofs.Common.{◌≡◌, ◌<◌, ℕ, List, true, false, length, get_or, take, refl, subst, arith}
use Rattle.std.proofs.lemmas.Bool.{both_ways, false≢true}
use Rattle.std.proofs.lemmas.List.{take_all}
use Rattle.std.proofs.lemmas.List.Elements.{Contains-get_or}
use Rattle.omega_ltl_shapes.specs.Terms.{HasItems}
use Rattle.omega_ltl_shapes.proofs.ItemLemmas.{get_or_same, has_items_more, has_items_none, take_read}
use Rattle.omega_ltl_shapes.proofs.items.has_items.Goals as goal

pub loop-item-init : goal.loop-item-init
loop-item-init c = has_items_none c.args.more.now

pub loop-item-preserved : goal.loop-item-preserved
loop-item-preserved c =
    let items : List ℕ = c.args.items.now in
    let i : ℕ = c.loop-item.item-index in
    let below : i < length items = omega arith in
    let there : c.has_item.result ≡ true = cc in
    subst (λ (xs : List ℕ). HasItems xs c.args.more.now) (take_read items i (get_or items i 0) below (get_or_same items i 0 below))
    (has_items_more (take i items) c.args.more.now (get_or items i 0) c.loop-item.invariant (c.has_item.ensures.0 there))

pub returns-then-not-has_item : goal.returns-then-not-has_item
returns-then-not-has_item c =
    let items : List ℕ = c.args.items.now in
    let i : ℕ = c.loop-item.item-index in
    let below : i < length items = omega arith in
    let lacks : c.has_item.result ≡ false = cc in (
      λ h. absurd (false≢true h),
      λ all. absurd (both_ways c.has_item.result lacks (c.has_item.ensures.1 (all (get_or items i 0) (Contains-get_or items i 0 below)))),
    )

pub returns : goal.returns
returns c = (
  λ h. subst (λ (xs : List ℕ). HasItems xs c.args.more.now) (take_all c.loop-item.item-index c.args.items.now (omega arith)) c.loop-item.invariant,
  λ all. refl,
)
