-- `count_greater`: the partition point is the count.
use Rattle.std.proofs.Common.{nat_lt, sym, rules}
use Rattle.std.proofs.lemmas.List.Sorted.{IsPartitionPoint-from_clause}
use Rattle.omega_answers_game.proofs.TurnedPriorities.{greater-partition, greater-partitioned}
use Rattle.omega_answers_game.proofs.turning.count_greater.Goals as goal

pub returns : goal.returns
returns c =
    let p = c.args.priority in
    let parts = IsPartitionPoint-from_clause (λ q. nat_lt p q) c.args.falling.now c.partition_point.result c.partition_point.ensures.partitioned (greater-partitioned p c.args.falling.now c.requires) (λ a r f h. search rules) in
    sym (greater-partition p c.args.falling.now c.partition_point.result c.partition_point.ensures.bound parts)
