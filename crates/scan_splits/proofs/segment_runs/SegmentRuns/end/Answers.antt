use Rattle.std.proofs.Common.{◌∙◌, ap, arith}
use Rattle.scan_layout.specs.Edges.{segment_ends}
use Rattle.scan_splits.proofs.Runs.{end_at, in_ends}
use Rattle.scan_splits.proofs.segment_runs.SegmentRuns.end.Goals as goal

pub index-requires : goal.index-requires
index-requires c =
    let same = c.self.invariant.ends ∙ ap (segment_ends 0) c.self.view_is in
    omega (arith, in_ends c.args.self.now c.self.inside.ends.items same, c.self.inside.ends.ok.0)

pub returns : goal.returns
returns c =
    let same = c.self.invariant.ends ∙ ap (segment_ends 0) c.self.view_is in
    end_at c.args.self.now c.self.inside.ends.items c.args.i c.index.result.now same c.requires c.index.ensures
