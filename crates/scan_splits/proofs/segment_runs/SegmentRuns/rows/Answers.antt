use Rattle.std.proofs.Common.{◌+◌, arith}
use Rattle.scan_splits.proofs.Runs.{start_rises}
use Rattle.scan_splits.proofs.segment_runs.SegmentRuns.rows.Goals as goal

pub overflow_sub-result : goal.overflow_sub-result
overflow_sub-result c = omega (arith, start_rises c.args.self.now c.args.i (c.args.i + 1) (omega arith), c.end.ensures, c.start.ensures)
