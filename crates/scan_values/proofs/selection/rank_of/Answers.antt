use Rattle.std.proofs.Common.{nat_lt, rules, arith}
use Rattle.std.proofs.lemmas.List.Sorted.{IsPartitionPoint-from_clause, IsPartitionedBy-ltb}
use Rattle.scan_values.proofs.Rising.{non_decreasing, rank-point}
use Rattle.scan_values.proofs.selection.rank_of.Goals as goal

pub returns : goal.returns
returns c =
    let items = c.args.items.now in
    let parted = IsPartitionedBy-ltb (λ x. x) items c.args.n (non_decreasing items c.requires) in
    let point = IsPartitionPoint-from_clause (λ x. nat_lt x c.args.n) _ _ c.partition_point.ensures.partitioned parted (λ a r q k. search rules) in
    rank-point c.args.n items c.partition_point.result c.partition_point.ensures.bound (λ k d l. point.0 k d (omega arith) l) point.1
