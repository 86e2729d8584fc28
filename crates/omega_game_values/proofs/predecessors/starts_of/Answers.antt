-- `starts_of`: where the predecessors of each place start, by their numbers.
use Rattle.std.proofs.Common.{ℕ, length, List, sum_by, arith, ap, ◌∙◌}
use Rattle.std.proofs.lemmas.List.{take_all}
use Rattle.omega_game_values.proofs.layout.CountedPredecessors.{starts_from_counts}
use Rattle.omega_game_values.proofs.predecessors.starts_of.Goals as goal

pub sum_before-requires : goal.sum_before-requires
sum_before-requires c =
    omega (
      arith,
      c.in_ok-counts.ensures.counts_sum,
      ap (sum_by (λ (list : List ℕ). length list)) (take_all (length c.args.successors.now) c.args.successors.now (omega arith)),
      c.requires.few_edges,
    )

pub returns : goal.returns
returns c = starts_from_counts c.args.successors.now c.in_ok-counts.counts.items c.sum_before.new.numbers.items c.in_ok-counts.ensures
    (c.sum_before.ensures.count ∙ c.in_ok-counts.ensures.counts_size)
    (λ k h. c.sum_before.ensures.sums k (omega (arith, c.in_ok-counts.ensures.counts_size)))
