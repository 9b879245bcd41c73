use Rattle.std.proofs.Common.{nat_lt, nat_le, take, rules, ◌∙◌, arith}
use Rattle.std.proofs.lemmas.List.Sorted.{IsPartitionPoint-from_clause, IsPartitionedBy-ltb, IsPartitionedBy-leb}
use Rattle.scan_values.proofs.Rising.{non_decreasing}
use Rattle.scan_core.proofs.Ranging.{Point, point_of, rising_take, taken_all, inside_is}
use Rattle.scan_core.proofs.splits.inside.Goals as goal

pub returns : goal.returns
returns c =
    let xs = c.args.boundaries.now in
    let ys = take c.partition_point.result xs in
    let start = c.args.range.now.start in
    let end = c.args.range.now.end in
    let hi = IsPartitionPoint-from_clause (λ x. nat_lt x end) _ _ c.partition_point.ensures.partitioned (IsPartitionedBy-ltb (λ x. x) xs end (non_decreasing xs c.requires)) (λ a r q k. search rules) in
    let lo = IsPartitionPoint-from_clause (λ x. nat_le x start) _ _ c.partition_point-first.ensures.partitioned (IsPartitionedBy-leb (λ x. x) ys start (non_decreasing ys (rising_take xs c.partition_point.result c.requires))) (λ a r q k. search rules) in
    let last : Point (λ x. nat_lt x end) xs c.partition_point.result = point_of _ xs _ c.partition_point.ensures.bound (λ k d l. hi.0 k d (omega arith) l) hi.1 in
    let first : Point (λ x. nat_le x start) ys c.partition_point-first.result = point_of _ ys _ c.partition_point-first.ensures.bound (λ k d l. lo.0 k d (omega arith) l) lo.1 in
    taken_all ys c.partition_point-first.result ∙ inside_is start end xs c.partition_point-first.result c.partition_point.result last first
