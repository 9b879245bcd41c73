use Rattle.std.proofs.Common.{◌≡◌, ◌∙◌, ap, arith, rules, nat_le}
use Rattle.std.proofs.lemmas.List.Sorted.{IsPartitionPoint-from_clause, IsPartitionedBy-leb}
use Rattle.scan_layout.specs.Edges.{segment_ends}
use Rattle.scan_splits.proofs.Runs.{in_ends, ends_do_rise, end_by, end_past}
use Rattle.scan_splits.proofs.segment_runs.SegmentRuns.first_at.Goals as goal

pub returns-clause-within : goal.returns-clause-within
returns-clause-within c =
    let same = c.self.invariant.ends ∙ ap (segment_ends 0) c.self.view_is in
    omega (arith, in_ends c.args.self.now c.self.inside.ends.items same, c.deref.ensures.len, c.partition_point.ensures.bound, c.self.inside.ends.ok.0)

pub returns-clause-before : goal.returns-clause-before
returns-clause-before c =
    let same : c.deref.result.now ≡ segment_ends 0 c.args.self.now = c.deref.ensures.value ∙ c.self.invariant.ends ∙ ap (segment_ends 0) c.self.view_is in
    let parted = IsPartitionedBy-leb (λ x. x) c.deref.result.now c.args.row (ends_do_rise c.args.self.now c.deref.result.now same) in
    let point = IsPartitionPoint-from_clause (λ x. nat_le x c.args.row) _ _ c.partition_point.ensures.partitioned parted (λ a r q k. search rules) in
    λ k h. end_by c.args.self.now c.deref.result.now c.args.row k same (omega (arith, c.partition_point.ensures.bound)) (point.0 k 0 (omega arith) h)

pub returns-clause-past : goal.returns-clause-past
returns-clause-past c =
    let same : c.deref.result.now ≡ segment_ends 0 c.args.self.now = c.deref.ensures.value ∙ c.self.invariant.ends ∙ ap (segment_ends 0) c.self.view_is in
    let parted = IsPartitionedBy-leb (λ x. x) c.deref.result.now c.args.row (ends_do_rise c.args.self.now c.deref.result.now same) in
    let point = IsPartitionPoint-from_clause (λ x. nat_le x c.args.row) _ _ c.partition_point.ensures.partitioned parted (λ a r q k. search rules) in
    λ h. end_past c.args.self.now c.deref.result.now c.args.row c.partition_point.result same (omega (arith, in_ends c.args.self.now c.deref.result.now same)) (point.1 c.partition_point.result 0 (omega arith) (omega (arith, in_ends c.args.self.now c.deref.result.now same)))
