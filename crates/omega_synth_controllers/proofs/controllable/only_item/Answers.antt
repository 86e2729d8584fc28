-- the first item, and whether another stands after it
use Rattle.std.proofs.Common.{◌≡◌, ℕ, suc, ◌<◌, false, true, List, [], ◌∷◌, length, drop, refl, ap, sym, ◌∙◌, arith}
use Rattle.std.specs.List.{filter, list_any}
use Rattle.omega_hoa_automaton.specs.declared.header.Header.{Header}
use Rattle.omega_synth_controllers.specs.Controllable.{is_controllable_item}
use Rattle.omega_synth_controllers.proofs.Only.{filter_from, filter_none, filter_some, items_after, same_item}
use Rattle.omega_synth_controllers.proofs.controllable.only_item.Goals as goal

pub returns-then-has_item-clause-refused : goal.returns-then-has_item-clause-refused
returns-then-has_item-clause-refused c =
    let headers : List Header = c.args.headers.now in
    let at : ℕ = c.loop-at.at in
    let below : at < length headers = omega (arith, c.loop-at-test.true) in
    let split : filter is_controllable_item headers ≡ c.index-headers-at.result ∷ filter is_controllable_item (drop (suc at) headers) =
    filter_from is_controllable_item headers at c.index-headers-at.result below c.index-headers-at.is (sym c.is_controllable.ensures ∙ c.if-is_controllable.true) c.loop-at.invariant in
    let another : list_any is_controllable_item (drop (suc at) headers) ≡ true =
    ap (list_any is_controllable_item) (items_after headers at) ∙ sym c.has_item.ensures ∙ c.if-has_item.true in
    let some : 0 < length (filter is_controllable_item (drop (suc at) headers)) = filter_some is_controllable_item (drop (suc at) headers) another in
    (refl, λ few. let counted = ap length split in omega (arith, counted, some, few))

pub returns-then-is_controllable-clause-item : goal.returns-then-is_controllable-clause-item
returns-then-is_controllable-clause-item c =
    let headers : List Header = c.args.headers.now in
    let at : ℕ = c.loop-at.at in
    let below : at < length headers = omega (arith, c.loop-at-test.true) in
    let split : filter is_controllable_item headers ≡ c.index-headers-at.result ∷ filter is_controllable_item (drop (suc at) headers) =
    filter_from is_controllable_item headers at c.index-headers-at.result below c.index-headers-at.is (sym c.is_controllable.ensures ∙ c.if-is_controllable.true) c.loop-at.invariant in
    let no_other : list_any is_controllable_item (drop (suc at) headers) ≡ false =
    ap (list_any is_controllable_item) (items_after headers at) ∙ sym c.has_item.ensures ∙ c.if-has_item.false in (
      below,
      λ d. split ∙ ap (λ (others : List Header). c.index-headers-at.result ∷ others) (filter_none is_controllable_item (drop (suc at) headers) no_other)
          ∙ ap (λ (item : Header). item ∷ []) (c.index-headers-at.is ∙ same_item headers at c.index-headers-at.result d below),
    )
