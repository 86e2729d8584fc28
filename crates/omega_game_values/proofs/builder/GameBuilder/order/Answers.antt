-- `GameBuilder::order`: the indices of the specifications, in rising order of identifiers.
use Rattle.std.proofs.Common.{◌≡◌, ℕ, length, map, List, get_or, ap, sym, subst, ◌∙◌}
use Rattle.omega_game_values.proofs.building.Collecting.{ids-specs_of, length-specs_of}
use Rattle.omega_game_values.specs.private.layout.Collected.{ids_of}
use Rattle.std.specs.List.{range_with_len}
use Rattle.std.specs.List.Sorted.{IsPermutation, IsNonDecreasing}
use Rattle.omega_game_values.proofs.builder.GameBuilder.order.Goals as goal

-- the identifiers that are sorted
same : (c : goal.In_ok-order) → c.as_slice.result.now ≡ ids_of c.args.self.now
same c = c.as_slice.ensures.value ∙ sym (ids-specs_of _) ∙ ap ids_of c.self.view_is

pub returns-clause-permutation : goal.returns-clause-permutation
returns-clause-permutation c =
    subst (λ (n : ℕ). IsPermutation (range_with_len 0 n) c.in_ok-order.order.items) (ap length c.as_slice.ensures.value ∙ sym (length-specs_of _) ∙ ap length c.self.view_is) c.in_ok-order.ensures.permutation

pub returns-clause-rising : goal.returns-clause-rising
returns-clause-rising c =
    subst (λ (ids : List ℕ). IsNonDecreasing (map (λ i. get_or ids i 0) c.in_ok-order.order.items)) (same c) c.in_ok-order.ensures.rising
