-- `GameBuilder::rearranged`: the specifications in rising order of identifiers.
use Rattle.std.proofs.Common.{ℕ, length, map, List, get_or, ap, sym, subst, ◌∙◌}
use Rattle.std.proofs.lemmas.Result.{IfOk-weaker}
use Rattle.omega_game_values.specs.private.layout.Collected.{ids_of}
use Rattle.std.specs.List.{range_with_len}
use Rattle.std.specs.List.Sorted.{IsPermutation, IsNonDecreasing}
use Rattle.omega_game_values.proofs.builder.GameBuilder.sorted_specs.Goals as goal

pub rearranged_by-requires : goal.rearranged_by-requires
rearranged_by-requires c = subst (λ (order : List ℕ). IsPermutation (range_with_len 0 (length c.args.self)) order) (sym c.as_slice.ensures.value) c.in_ok-order.ensures.permutation

pub returns-clause-rising : goal.returns-clause-rising
returns-clause-rising c =
    IfOk-weaker c.rearranged_by.result _ _
    (λ builder ids. subst IsNonDecreasing (sym (ids ∙ ap (map (λ i. get_or (ids_of c.args.self) i 0)) c.as_slice.ensures.value)) c.in_ok-order.ensures.rising)
    c.rearranged_by.ensures.ids
