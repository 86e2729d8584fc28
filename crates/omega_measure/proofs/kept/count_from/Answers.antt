-- The partition point is the count.
use Rattle.std.proofs.Common.{leb, sym, rules}
use Rattle.std.proofs.lemmas.List.Sorted.{IsPartitionPoint-from_clause}
use Rattle.omega_measure.proofs.Falling.{IsPartitionedBy-falling, count_from-partition}
use Rattle.omega_measure.proofs.kept.count_from.Goals as goal

pub returns : goal.returns
returns c =
    let p = c.args.p in
    let parts = IsPartitionPoint-from_clause (λ q. leb p q) c.args.numbers.now c.partition_point.result c.partition_point.ensures.partitioned (IsPartitionedBy-falling p c.args.numbers.now c.requires) (λ a r f h. search rules) in
    sym (count_from-partition p c.args.numbers.now c.partition_point.result c.partition_point.ensures.bound parts)
