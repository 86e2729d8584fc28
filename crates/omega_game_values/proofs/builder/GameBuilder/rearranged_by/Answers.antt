-- `GameBuilder::rearranged_by`: the specifications at these indices, which are all of them.
use Rattle.std.proofs.Common.{◌≡◌, ℕ, ◌<◌, length, map, List, get_or, arith, ap, sym, subst, refl, ◌∙◌, All}
use Rattle.omega_game_values.proofs.building.Collecting.{ids-specs_of, length-specs_of, ArePicked, specs_of-rearranged, AreCollected-rearranged, order_within}
use Rattle.omega_game_values.specs.private.layout.Collected.{ids_of}
use Rattle.omega_game_values.specs.private.layout.Columns.{collected, Columns, specs_of}
use Rattle.omega_game_values.specs.declared.player.Player.TheVariants.{Zero}
use Rattle.omega_game_values.specs.declared.node_spec.NodeSpec.{NodeSpec}
use Rattle.std.specs.List.{range_with_len}
use Rattle.std.specs.List.Sorted.{IsPermutation}
use Rattle.omega_game_values.proofs.builder.GameBuilder.rearranged_by.Goals as goal

-- the indices are those of the columns
over : (columns : Columns) (specs : List NodeSpec) (order : List ℕ) → specs_of columns ≡ specs → IsPermutation (range_with_len 0 (length specs)) order
    → IsPermutation (range_with_len 0 (length columns.identifiers)) order
over columns specs order is moved = subst (λ (n : ℕ). IsPermutation (range_with_len 0 n) order) (sym (ap length is) ∙ length-specs_of columns) moved

-- the indices are within a column
within : {X : Type 0} (columns : Columns) (specs : List NodeSpec) (order : List ℕ) (items column : List X) → specs_of columns ≡ specs → IsPermutation (range_with_len 0 (length specs)) order
    → items ≡ column → length column ≡ length columns.identifiers → All (λ i. i < length items) order
within columns specs order items column is moved same size = λ k d h.
    omega (arith, ap length same, size, order_within (length columns.identifiers) order (over columns specs order is moved) k d h)

pub picked_items-requires : goal.picked_items-requires
picked_items-requires c = within _ c.args.self.now c.args.order.now c.as_slice.result.now c.self.inside.ids.items c.self.view_is c.requires c.as_slice.ensures.value refl

pub picked_items-requires-2 : goal.picked_items-requires-2
picked_items-requires-2 c = within _ c.args.self.now c.args.order.now c.as_slice-2.result.now c.self.inside.priorities.items c.self.view_is c.requires c.as_slice-2.ensures.value c.self.invariant.even.priorities_even

pub picked_items-requires-3 : goal.picked_items-requires-3
picked_items-requires-3 c = within _ c.args.self.now c.args.order.now c.as_slice-3.result.now c.self.inside.owners.items c.self.view_is c.requires c.as_slice-3.ensures.value c.self.invariant.even.owners_even

-- the columns before
before : (c : goal.In_ok-quoted) → Columns
before c = collected c.self.inside.ids.items c.self.inside.priorities.items c.self.inside.owners.items c.self.inside.successors c.self.inside.quoted

-- the columns after
after : (c : goal.In_ok-quoted) → Columns
after c = collected c.in_ok-ids.ids.items c.in_ok-priorities.priorities.items c.in_ok-owners.owners.items c.in_ok-successors.successors c.in_ok-quoted.quoted

are_picked : (c : goal.In_ok-quoted)
    → ArePicked (collected c.self.inside.ids.items c.self.inside.priorities.items c.self.inside.owners.items c.self.inside.successors c.self.inside.quoted)
    (collected c.in_ok-ids.ids.items c.in_ok-priorities.priorities.items c.in_ok-owners.owners.items c.in_ok-successors.successors c.in_ok-quoted.quoted) c.args.order.now
are_picked c = record {
  identifiers_picked = c.in_ok-ids.ensures 0 ∙ ap (λ xs. map (λ i. get_or xs i 0) c.args.order.now) c.as_slice.ensures.value;
  priorities_picked = c.in_ok-priorities.ensures 0 ∙ ap (λ xs. map (λ i. get_or xs i 0) c.args.order.now) c.as_slice-2.ensures.value;
  owners_picked = c.in_ok-owners.ensures Zero ∙ ap (λ xs. map (λ i. get_or xs i Zero) c.args.order.now) c.as_slice-3.ensures.value;
  successors_picked = c.in_ok-successors.ensures;
  quoted_picked = c.in_ok-quoted.ensures.names;
  quoted_few = c.in_ok-quoted.ensures.within;
}

pub invariant_of-result : goal.invariant_of-result
invariant_of-result c = AreCollected-rearranged _ _ c.args.order.now (are_picked c) (over _ c.args.self.now c.args.order.now c.self.view_is c.requires) c.self.invariant

pub returns-clause-permutation : goal.returns-clause-permutation
returns-clause-permutation c =
    subst (λ (specs : List NodeSpec). IsPermutation specs (specs_of (collected c.in_ok-ids.ids.items c.in_ok-priorities.priorities.items c.in_ok-owners.owners.items c.in_ok-successors.successors c.in_ok-quoted.quoted)))
    c.self.view_is (specs_of-rearranged _ _ c.args.order.now (are_picked c) (over _ c.args.self.now c.args.order.now c.self.view_is c.requires))

pub returns-clause-ids : goal.returns-clause-ids
returns-clause-ids c =
    ids-specs_of (collected c.in_ok-ids.ids.items c.in_ok-priorities.priorities.items c.in_ok-owners.owners.items c.in_ok-successors.successors c.in_ok-quoted.quoted)
    ∙ (are_picked c).identifiers_picked
    ∙ ap (λ xs. map (λ i. get_or xs i 0) c.args.order.now) (sym (ids-specs_of (collected c.self.inside.ids.items c.self.inside.priorities.items c.self.inside.owners.items c.self.inside.successors c.self.inside.quoted)) ∙ ap ids_of c.self.view_is)
